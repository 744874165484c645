-- A rate fires where two parts of the counter are 0: the low bits, and the rest modulo 3 or 5. So no division is needed.
use Rattle.std.proofs.Common.{◌≡◌, ℕ, zero, suc, ◌+◌, ◌-◌, ◌*◌, ◌/◌, ◌%◌, ◌^◌, ◌<◌, Bool, true, false, ◌&&◌, ◌||◌, ◌==◌, get_or, if◌then◌else◌, refl, ap, ◌∙◌, arith, nat_lt}
use Rattle.std.proofs.Math.Nat.{mul-mod_right, div-add-mod, pow-suc}
use Rattle.std.proofs.lemmas.Nat.{and_mask}
use Rattle.std.proofs.lemmas.Bool.Decides.{nat_tests}
use Rattle.std.specs.Prelude.{bit_and, List, [], ◌∷◌}
use Rattle.std.specs.List.{range_with_len}
use Rattle.std.proofs.lemmas.List.FromFn.{get_or-range_with_len}
use Rattle.rate_clock.specs.Counter.{periods, offsets, fires}
use Rattle.rate_clock.specs.Inside.{rest_at}
use Rattle.rate_clock.proofs.Tables.{list_all-entry}

-- a multiple of 2m and of an odd part o is a multiple of o * 2m, where o is separated from halves
divides_both : (o : ℕ) → ((y : ℕ) → (2 * y) % o ≡ 0 → y % o ≡ 0) → (k x : ℕ) → x % o ≡ 0 → x % 2 ^ k ≡ 0 → x % (o * 2 ^ k) ≡ 0
divides_both o halves zero x by_o by_power = let one : o * 2 ^ 0 ≡ o = omega arith in rw one by_o
divides_both o halves (suc k) x by_o by_power =
    let m : ℕ = 2 ^ k in
    let double : 2 ^ suc k ≡ 2 * m = pow-suc 2 k ∙ omega arith in
    let whole : x ≡ 2 * m * (x / (2 * m)) = omega (arith, div-add-mod x (2 * m), rw double at by_power) in
    let q : ℕ = x / (2 * m) in
    let twice : x ≡ 2 * (m * q) = whole ∙ omega arith in
    let half_by_o : (m * q) % o ≡ 0 = halves (m * q) (rw (← twice) by_o) in
    let inner : (m * q) % (o * m) ≡ 0 = divides_both o halves k (m * q) half_by_o (mul-mod_right m q) in
    let r : ℕ = m * q / (o * m) in
    let again : m * q ≡ o * m * r = omega (arith, div-add-mod (m * q) (o * m), inner) in
    let all : x ≡ o * 2 ^ suc k * r = twice ∙ ap (λ (n : ℕ). 2 * n) again ∙ rw double (omega arith) in
    rw all (mul-mod_right (o * 2 ^ suc k) r)

-- the other way round
divides_each : (a b x : ℕ) → x % (a * b) ≡ 0 → (x % a ≡ 0) × (x % b ≡ 0)
divides_each a b x h =
    let q : ℕ = x / (a * b) in
    let whole : x ≡ a * b * q = omega (arith, div-add-mod x (a * b), h) in
    let by_a : x ≡ a * (b * q) = whole ∙ omega arith in
    let by_b : x ≡ b * (a * q) = whole ∙ omega arith in
    (rw by_a (mul-mod_right a (b * q)), rw by_b (mul-mod_right b (a * q)))

-- the test of a period is the tests of its parts
by_parts : (o : ℕ) → ((y : ℕ) → (2 * y) % o ≡ 0 → y % o ≡ 0) → (k x : ℕ) → (x % (o * 2 ^ k) == 0) ≡ ((x % 2 ^ k == 0) && (x % o == 0))
by_parts o halves k x =
    let both = divides_both o halves k x in
    let each = divides_each o (2 ^ k) x in
    grind (arith, nat_tests, both, each)

halves_of_three : (y : ℕ) → (2 * y) % 3 ≡ 0 → y % 3 ≡ 0
halves_of_three y h = omega arith

halves_of_five : (y : ℕ) → (2 * y) % 5 ≡ 0 → y % 5 ≡ 0
halves_of_five y h = omega arith

both_tests : (rate a b c d : ℕ) → 0 < rate → ((rate == 0) || ((a == b) && (c == d))) ≡ true → (a ≡ b) × (c ≡ d)
both_tests rate a b c d positive test = (grind (arith, nat_tests), grind (arith, nat_tests))

-- the odd part of a period, which its rate's offset shows
abbrev pub odd_part : ℕ → ℕ
odd_part offset = if offset == 1040 then 3 else if offset == 536 then 5 else 1

-- the power of 2 in each period
abbrev pub exponents : List ℕ
exponents =
    0 ∷ 11 ∷ 9 ∷ 8 ∷ 10 ∷ 8 ∷ 7 ∷ 9 ∷ 7 ∷ 6 ∷ 8 ∷ 6 ∷ 5 ∷ 7 ∷ 5 ∷ 4 ∷
    6 ∷ 4 ∷ 3 ∷ 5 ∷ 3 ∷ 2 ∷ 4 ∷ 2 ∷ 1 ∷ 3 ∷ 1 ∷ 0 ∷ 2 ∷ 0 ∷ 1 ∷ 0 ∷ []

-- the low bits of each rate, as the clock has them
abbrev pub low_bits : List ℕ
low_bits =
    0 ∷ 2047 ∷ 511 ∷ 255 ∷ 1023 ∷ 255 ∷ 127 ∷ 511 ∷ 127 ∷ 63 ∷ 255 ∷ 63 ∷ 31 ∷ 127 ∷ 31 ∷ 15 ∷
    63 ∷ 15 ∷ 7 ∷ 31 ∷ 7 ∷ 3 ∷ 15 ∷ 3 ∷ 1 ∷ 7 ∷ 1 ∷ 0 ∷ 3 ∷ 0 ∷ 1 ∷ 0 ∷ []

-- the test of a period by low bits and the rest by its odd part
from_parts : (o : ℕ) → ((y : ℕ) → (2 * y) % o ≡ 0 → y % o ≡ 0) → (period low rest k x : ℕ) → period ≡ o * 2 ^ k → low ≡ 2 ^ k - 1 → rest ≡ x % o
    → (x % period == 0) ≡ ((bit_and x low == 0) && (rest == 0))
from_parts o halves period low rest k x whole ones same =
    let power : bit_and x low ≡ x % 2 ^ k = rw ones (and_mask x k) in
    rw (whole, power, same) (by_parts o halves k x)

-- the same, where the offset shows the odd part
test_by_parts : (period low offset k counter : ℕ) → period ≡ odd_part offset * 2 ^ k → low ≡ 2 ^ k - 1
    → ((counter + offset) % period == 0) ≡ ((bit_and (counter + offset) low == 0) && (rest_at counter offset == 0))
test_by_parts period low offset k counter whole ones =
    let x : ℕ = counter + offset in
    elim (offset == 1040) as (λ b. (offset == 1040) ≡ b → (x % period == 0) ≡ ((bit_and x low == 0) && (rest_at counter offset == 0))) [
      | true ↦ λ thirds. (let at : offset ≡ 1040 = grind (arith, nat_tests) in
          from_parts 3 halves_of_three period low (rest_at counter offset) k x (rw thirds at whole) ones (rw at refl))
      | false ↦ λ other. elim (offset == 536) as (λ b. (offset == 536) ≡ b → (x % period == 0) ≡ ((bit_and x low == 0) && (rest_at counter offset == 0))) [
        | true ↦ λ fifths. (let at : offset ≡ 536 = grind (arith, nat_tests) in
            from_parts 5 halves_of_five period low (rest_at counter offset) k x (rw (other, fifths) at whole) ones (rw at refl))
        | false ↦ λ plain. from_parts 1 (λ y h. omega arith) period low (rest_at counter offset) k x (rw (other, plain) at whole) ones (rw (other, plain) (omega arith))
      ] refl
    ] refl

-- each period but the first is its odd part times its power of 2
abbrev fits : ℕ → Bool
fits rate =
    (rate == 0) || ((get_or periods rate 0 == odd_part (get_or offsets rate 0) * 2 ^ get_or exponents rate 0)
    && (get_or low_bits rate 0 == 2 ^ get_or exponents rate 0 - 1))

period_parts : (rate : ℕ) → 0 < rate → rate < 32
    → (get_or periods rate 0 ≡ odd_part (get_or offsets rate 0) * 2 ^ get_or exponents rate 0) × (get_or low_bits rate 0 ≡ 2 ^ get_or exponents rate 0 - 1)
period_parts rate positive within =
    let test : fits (get_or (range_with_len 0 32) rate 0) ≡ true = list_all-entry fits (range_with_len 0 32) rate (omega arith) refl in
    let same : get_or (range_with_len 0 32) rate 0 ≡ rate = get_or-range_with_len 0 32 rate 0 within ∙ omega arith in
    both_tests rate (get_or periods rate 0) (odd_part (get_or offsets rate 0) * 2 ^ get_or exponents rate 0) (get_or low_bits rate 0) (2 ^ get_or exponents rate 0 - 1) positive (rw same at test)

-- whether a rate fires, by the low bits and the rest
pub fires_by_parts : (rate counter : ℕ) → 0 < rate → rate < 32
    → fires rate counter ≡ ((bit_and (counter + get_or offsets rate 0) (get_or low_bits rate 0) == 0) && (rest_at counter (get_or offsets rate 0) == 0))
unfolding fires
fires_by_parts rate counter positive within =
    let parts = period_parts rate positive within in
    let some : nat_lt 0 rate ≡ true = grind (arith, nat_tests) in
    rw some (test_by_parts (get_or periods rate 0) (get_or low_bits rate 0) (get_or offsets rate 0) (get_or exponents rate 0) counter parts.0 parts.1)
