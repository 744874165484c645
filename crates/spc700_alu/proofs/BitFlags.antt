-- The flags of a byte by bits alone, each against the test that defines it.
use Rattle.std.proofs.Common.{◌≡◌, ℕ, ◌+◌, ◌*◌, ◌/◌, ◌%◌, ◌<◌, ◌≤◌, ◌^◌, Bool, true, not, ◌&&◌, ◌==◌, nat_le, bit_and, bit_or, refl, sym, ap, ◌∙◌, slice_index_or, arith, if◌then◌else◌}
use Rattle.std.specs.Prelude.{map}
use Rattle.std.specs.List.{range_with_len}
use Rattle.std.specs.Int.RustNames.{bit_xor}
use Rattle.std.proofs.lemmas.Bool.{eqb-true}
use Rattle.std.proofs.lemmas.List.FromFn.{get_or-map-range_with_len}
use Rattle.std.proofs.Math.Nat.{mod-eq_of_lt}
use Rattle.std.specs.Int.Bits.{and_lt}
use Rattle.std.proofs.lemmas.Nat.{and_mod, xor_mod, and_shr, xor_shr, xor_of_8, and_le_r}
use Rattle.spc700_alu.specs.Flags.{N, V, H, Z, C, differ, with_flag, with_nz}
use Rattle.spc700_alu.specs.Bytes.{overflows}
use Rattle.spc700_alu.specs.declared.flags.TheConstants.{NZ_OF_BYTE}
use Rattle.spc700_alu.proofs.Apart.{all_below, at_each, same, from_same}
use Rattle.spc700_alu.proofs.SumFlags.{of_both, at_one}

-- N and Z of each byte, by one computation
abbrev nz_of : ℕ → ℕ
nz_of value = with_nz value 0

rows_are : NZ_OF_BYTE ≡ map nz_of (range_with_len 0 256)
rows_are = refl

pub nz_at : (d value : ℕ) → value < 256 → slice_index_or NZ_OF_BYTE value d ≡ with_nz value 0
nz_at d value below = ap (λ rows. slice_index_or rows value d) rows_are ∙ get_or-map-range_with_len nz_of 0 256 value value d below (omega arith)

-- flags that are put into a status without them are set in it
abbrev puts_nz : (psw : ℕ) (n z : Bool) → Bool
puts_nz psw n z = bit_or (bit_and psw 125) (with_flag N n (with_flag Z z 0)) == with_flag N n (with_flag Z z psw)

abbrev puts_all_nz : ℕ → Bool
puts_all_nz psw = of_both (λ n. of_both (λ z. puts_nz psw n z))

all_put_nz : all_below puts_all_nz 256 ≡ true
all_put_nz = refl

pub put_nz_once : (psw : ℕ) (n z : Bool) → psw < 256 → bit_or (bit_and psw 125) (with_flag N n (with_flag Z z 0)) ≡ with_flag N n (with_flag Z z psw)
put_nz_once psw n z below =
    eqb-true _ _ (at_one (λ z. puts_nz psw n z) z (at_one (λ n. of_both (λ z. puts_nz psw n z)) n (at_each puts_all_nz 256 psw all_put_nz below)))

-- the number of a flag
abbrev pub bit_of_flag : (mask : ℕ) → Bool → ℕ
bit_of_flag mask on = if on then mask else 0

abbrev puts_sum : (psw : ℕ) (v h c : Bool) → Bool
puts_sum psw v h c =
    bit_or (bit_or (bit_or (bit_and psw 182) (bit_of_flag C c)) (bit_of_flag H h)) (bit_of_flag V v) == with_flag V v (with_flag H h (with_flag C c psw))

abbrev puts_all_sums : ℕ → Bool
puts_all_sums psw = of_both (λ v. of_both (λ h. of_both (λ c. puts_sum psw v h c)))

all_put_sums : all_below puts_all_sums 256 ≡ true
all_put_sums = refl

pub put_sum_once : (psw : ℕ) (v h c : Bool) → psw < 256
    → bit_or (bit_or (bit_or (bit_and psw 182) (bit_of_flag C c)) (bit_of_flag H h)) (bit_of_flag V v) ≡ with_flag V v (with_flag H h (with_flag C c psw))
put_sum_once psw v h c below =
    eqb-true _ _
    (at_one (λ c. puts_sum psw v h c) c
    (at_one (λ h. of_both (λ c. puts_sum psw v h c)) h
    (at_one (λ v. of_both (λ h. of_both (λ c. puts_sum psw v h c))) v
    (at_each puts_all_sums 256 psw all_put_sums below))))

-- the carry out of a sum of bytes
pub carry_of_sum : (sum : ℕ) → sum < 0x200 → sum / 0x100 ≡ bit_of_flag C (nat_le 0x100 sum)
carry_of_sum sum below = eqb-true _ _ (at_each (λ sum. sum / 0x100 == bit_of_flag C (nat_le 0x100 sum)) 512 sum refl below)

-- Half carry: it is the bit 4 in which a sum differs from its terms without carries, which only the low five bits of the terms decide.
abbrev low_half : (carry a b : ℕ) → Bool
low_half carry a b =
    bit_and (bit_xor (bit_xor a b) ((a + b + carry) % 0x20)) 0x10 / 2 == bit_of_flag H (nat_le 0x10 (a % 0x10 + b % 0x10 + carry))

abbrev low_halves : (carry a : ℕ) → Bool
low_halves carry a = all_below (low_half carry a) 32

abbrev all_low_halves : ℕ → Bool
all_low_halves carry = all_below (low_halves carry) 32

low_halves_are : all_below all_low_halves 2 ≡ true
low_halves_are = refl

low_half_at : (a b carry : ℕ) → a < 32 → b < 32 → carry < 2
    → bit_and (bit_xor (bit_xor a b) ((a + b + carry) % 0x20)) 0x10 / 2 ≡ bit_of_flag H (nat_le 0x10 (a % 0x10 + b % 0x10 + carry))
low_half_at a b carry sa sb sc =
    eqb-true _ _ (at_each (low_half carry a) 32 b (at_each (low_halves carry) 32 a (at_each all_low_halves 2 carry low_halves_are sc) sa) sb)

-- the bit 4 of a byte is that of its low five bits
low_five : (x : ℕ) → bit_and (x % 2 ^ 5) 0x10 ≡ bit_and x 0x10
low_five x = sym (and_mod x 0x10 5) ∙ mod-eq_of_lt (omega (arith, and_le_r x 0x10))

pub half_of_bits : (a b carry : ℕ) → carry ≤ 1
    → bit_and (bit_xor (bit_xor a b) ((a + b + carry) % 0x100)) 0x10 / 2 ≡ bit_of_flag H (nat_le 0x10 (a % 0x10 + b % 0x10 + carry))
half_of_bits a b carry few =
    let a5 = a % 0x20 in
    let b5 = b % 0x20 in
    let sum : ((a + b + carry) % 0x100) % 0x20 ≡ (a5 + b5 + carry) % 0x20 = omega arith in
    let inner : bit_xor a b % 2 ^ 5 ≡ bit_xor a5 b5 = xor_mod a b 5 in
    let outer : bit_xor (bit_xor a b) ((a + b + carry) % 0x100) % 2 ^ 5 ≡ bit_xor (bit_xor a5 b5) ((a5 + b5 + carry) % 0x20) =
    xor_mod (bit_xor a b) ((a + b + carry) % 0x100) 5 ∙ (λ i. bit_xor (inner i) (sum i)) in
    let digits : a5 % 0x10 + b5 % 0x10 + carry ≡ a % 0x10 + b % 0x10 + carry = omega arith in
    let bits : bit_and (bit_xor (bit_xor a b) ((a + b + carry) % 0x100)) 0x10 ≡ bit_and (bit_xor (bit_xor a5 b5) ((a5 + b5 + carry) % 0x20)) 0x10 =
    sym (low_five (bit_xor (bit_xor a b) ((a + b + carry) % 0x100))) ∙ ap (λ x. bit_and x 0x10) outer in
    ap (λ x. x / 2) bits ∙ low_half_at a5 b5 carry (omega arith) (omega arith) (omega arith) ∙ ap (λ d. bit_of_flag H (nat_le 0x10 d)) digits

-- Overflow: the sign of the sum differs from that of both terms.
abbrev top_bits : (a b value : ℕ) → Bool
top_bits a b value = bit_and (bit_and (bit_xor a value) (bit_xor b value)) 1 * 0x40 == bit_of_flag V (overflows 1 a b value)

abbrev all_top_bits : (a b : ℕ) → Bool
all_top_bits a b = all_below (top_bits a b) 2

top_bits_are : all_below (λ a. all_below (all_top_bits a) 2) 2 ≡ true
top_bits_are = refl

top_bits_at : (a b value : ℕ) → a < 2 → b < 2 → value < 2 → bit_and (bit_and (bit_xor a value) (bit_xor b value)) 1 * 0x40 ≡ bit_of_flag V (overflows 1 a b value)
top_bits_at a b value sa sb sv =
    eqb-true _ _ (at_each (top_bits a b) 2 value (at_each (all_top_bits a) 2 b (at_each (λ a. all_below (all_top_bits a) 2) 2 a top_bits_are sa) sb) sv)

-- the top bit of a byte
top_bit : (x : ℕ) → x < 0x100 → bit_and x 0x80 / 2 ≡ bit_and (x / 2 ^ 7) 1 * 0x40
top_bit x below = eqb-true _ _ (at_each (λ x. bit_and x 0x80 / 2 == bit_and (x / 2 ^ 7) 1 * 0x40) 256 x refl below)

-- a number is 80h or more where its top bit is set
tests_top : (x : ℕ) → x < 0x100 → nat_le 0x80 x ≡ nat_le 1 (x / 2 ^ 7)
tests_top x below = from_same _ _ (at_each (λ x. same (nat_le 0x80 x) (nat_le 1 (x / 2 ^ 7))) 256 x refl below)

pub overflow_of_bits : (a b value : ℕ) → a < 0x100 → b < 0x100 → value < 0x100
    → bit_and (bit_and (bit_xor a value) (bit_xor b value)) 0x80 / 2 ≡ bit_of_flag V (overflows 0x80 a b value)
overflow_of_bits a b value sa sb sv =
    let a1 = a / 2 ^ 7 in
    let b1 = b / 2 ^ 7 in
    let v1 = value / 2 ^ 7 in
    let x = bit_and (bit_xor a value) (bit_xor b value) in
    let first : bit_xor a value / 2 ^ 7 ≡ bit_xor a1 v1 = xor_shr a value 7 in
    let second : bit_xor b value / 2 ^ 7 ≡ bit_xor b1 v1 = xor_shr b value 7 in
    let both : x / 2 ^ 7 ≡ bit_and (bit_xor a1 v1) (bit_xor b1 v1) = and_shr (bit_xor a value) (bit_xor b value) 7 ∙ (λ i. bit_and (first i) (second i)) in
    let small : x < 0x100 = and_lt 8 (bit_xor a value) (bit_xor b value) (xor_of_8 a value sa sv) (xor_of_8 b value sb sv) in
    let tests : overflows 1 a1 b1 v1 ≡ overflows 0x80 a b value =
    sym (λ i. not (differ (tests_top a sa i) (tests_top b sb i)) && differ (tests_top a sa i) (tests_top value sv i)) in
    top_bit x small ∙ ap (λ y. bit_and y 1 * 0x40) both
    ∙ top_bits_at a1 b1 v1 (omega arith) (omega arith) (omega arith) ∙ ap (bit_of_flag V) tests
