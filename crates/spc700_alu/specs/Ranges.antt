-- What the flags of a sum or a difference say, in whole numbers: whether it stays within its range (own).
use Rattle.std.specs.Prelude.{ℕ, ◌+◌, ◌-◌, ◌*◌, ◌/◌, ◌%◌, ◌≡◌, Bool, ◌&&◌, nat_le, nat_lt}
use Rattle.spc700_alu.specs.Flags.{C, flag, carry_in}
use Rattle.spc700_alu.specs.Bytes.{adc_of}
use Rattle.spc700_alu.specs.Decimal.{daa_of}

-- what a difference is less by: 1 where C is clear
abbrev pub borrow_in : (psw : ℕ) → ℕ
borrow_in psw = 1 - carry_in psw

-- A number read as signed, where those from `half` on are negative, and `half` more: 0 for the least, 2 * half - 1 for the greatest.
abbrev pub signed_and_half : (half a : ℕ) → ℕ
signed_and_half half a = (a + half) % (2 * half)

-- the signed sum of two numbers and a carry is a signed number
abbrev pub sum_fits : (half a b carry : ℕ) → Bool
sum_fits half a b carry =
    let sum = signed_and_half half a + signed_and_half half b + carry in
    nat_le half sum && nat_lt sum (3 * half)

-- the signed difference of two numbers and a borrow is one
abbrev pub difference_fits : (half a b borrow : ℕ) → Bool
difference_fits half a b borrow =
    let less = signed_and_half half b + borrow in
    nat_le less (signed_and_half half a + half) && nat_lt (signed_and_half half a) (less + half)

-- a number below 100 as two decimal digits in the digits of a byte
abbrev pub decimal_byte : (number : ℕ) → ℕ
decimal_byte number = number / 10 * 0x10 + number % 10

-- DAA after ADC of two such numbers, and the carry, gives their decimal sum
abbrev pub IsDecimalSum : (x y psw : ℕ) → Type 0
IsDecimalSum x y psw =
    let sum = adc_of (decimal_byte x) (decimal_byte y) psw in
    let total = x + y + carry_in psw in
    ((daa_of sum.value sum.psw).value ≡ decimal_byte (total % 100)) × (flag C (daa_of sum.value sum.psw).psw ≡ nat_le 100 total)
