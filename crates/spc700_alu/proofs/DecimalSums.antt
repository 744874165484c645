-- Decimal sums, by a test of all pairs of numbers below 100 and both carries.
use Rattle.std.proofs.Common.{◌≡◌, ℕ, ◌+◌, ◌%◌, ◌<◌, Bool, true, false, ◌&&◌, ◌||◌, ◌==◌, nat_le, nat_lt, refl, ◌∙◌, if◌then◌else◌}
use Rattle.std.proofs.lemmas.Bool.{and_parts, eqb-true}
use Rattle.spc700_alu.specs.Flags.{H, C, flag, carry_in}
use Rattle.spc700_alu.specs.Bytes.{byte_sum, adc_of}
use Rattle.spc700_alu.specs.Decimal.{daa_of}
use Rattle.spc700_alu.specs.Ranges.{decimal_byte, IsDecimalSum}
use Rattle.spc700_alu.proofs.Apart.{all_below, at_each, same, from_same}
use Rattle.spc700_alu.proofs.SumFlags.{h_of_five, c_of_five, c_of_three, with_five-small}

-- what DAA gives for A, C and H
abbrev has_tens : (a : ℕ) (c : Bool) → Bool
has_tens a c = c || nat_lt 0x99 a

abbrev adjusted_value : (a : ℕ) (c h : Bool) → ℕ
adjusted_value a c h =
    let adjusted = if has_tens a c then (a + 0x60) % 0x100 else a in
    if h || nat_lt 9 (adjusted % 0x10) then (adjusted + 6) % 0x100 else adjusted

abbrev carry_number : Bool → ℕ
carry_number c = if c then 1 else 0

-- the sum of two numbers as bytes, with its flags
abbrev sum_value : (x y carry : ℕ) → ℕ
sum_value x y carry = (decimal_byte x + decimal_byte y + carry) % 0x100

abbrev sum_carries : (x y carry : ℕ) → Bool
sum_carries x y carry = nat_le 0x100 (decimal_byte x + decimal_byte y + carry)

abbrev sum_carries_half : (x y carry : ℕ) → Bool
sum_carries_half x y carry = nat_le 0x10 (decimal_byte x % 0x10 + decimal_byte y % 0x10 + carry)

abbrev is_decimal : (carry x y : ℕ) → Bool
is_decimal carry x y =
    let total = x + y + carry in
    (adjusted_value (sum_value x y carry) (sum_carries x y carry) (sum_carries_half x y carry) == decimal_byte (total % 100))
    && same (has_tens (sum_value x y carry) (sum_carries x y carry)) (nat_le 100 total)

abbrev are_decimal : (carry x : ℕ) → Bool
are_decimal carry x = all_below (is_decimal carry x) 100

all_decimal : (c : Bool) → all_below (are_decimal (carry_number c)) 100 ≡ true
all_decimal true = refl
all_decimal false = refl

is_decimal_at : (c : Bool) (x y : ℕ) → x < 100 → y < 100 → is_decimal (carry_number c) x y ≡ true
is_decimal_at c x y sx sy =
    at_each (is_decimal (carry_number c) x) 100 y (at_each (are_decimal (carry_number c)) 100 x (all_decimal c) sx) sy

pub decimal_sum : (x y psw : ℕ) → x < 100 → y < 100 → psw < 256 → IsDecimalSum x y psw
unfolding byte_sum daa_of
decimal_sum x y psw sx sy sp =
    let sum = adc_of (decimal_byte x) (decimal_byte y) psw in
    let c : flag C sum.psw ≡ sum_carries x y (carry_in psw) = c_of_five psw _ _ _ _ _ sp in
    let h : flag H sum.psw ≡ sum_carries_half x y (carry_in psw) = h_of_five psw _ _ _ _ _ sp in
    let test : is_decimal (carry_in psw) x y ≡ true = is_decimal_at (flag C psw) x y sx sy in (
      (λ i. adjusted_value sum.value (c i) (h i)) ∙ eqb-true _ _ (and_parts _ _ test).0,
      c_of_three sum.psw _ _ _ (with_five-small psw _ _ _ _ _ sp) ∙ (λ i. has_tens sum.value (c i)) ∙ from_same _ _ (and_parts _ _ test).1,
    )
