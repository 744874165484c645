-- Rows of numbers, one more entry at a time, and parts of them.
use Rattle.std.proofs.Common.{◌≡◌, ◌≢◌, ℕ, ◌+◌, ◌-◌, ◌<◌, ◌==◌, List, ℤ, pos, Bool, true, false, length, take, drop, slice_set, refl, sym, ◌∙◌, arith}
use Rattle.std.proofs.lemmas.Bool.Decides.{nat_tests}
use Rattle.std.proofs.lemmas.List.{get_or-set_same, get_or-set_other, drop-take}
use Rattle.std.specs.List.{slice_range}
use Rattle.num_fix.specs.SignedWords.{number_at}

-- one entry more of a part from a place on
pub part_more : (row : List ℤ) (at j : ℕ) (x : ℤ) (f : ℕ → ℤ) → at + j < length row → ((i : ℕ) → i < j → number_at row (at + i) ≡ f i) → x ≡ f j
    → (i : ℕ) → i < j + 1 → number_at (slice_set row (at + j) x) (at + i) ≡ f i
part_more row at j x f within part is i below = by (i == j) refl
  where
    by : (b : Bool) → (i == j) ≡ b → number_at (slice_set row (at + j) x) (at + i) ≡ f i
    by true e =
        let here : i ≡ j = grind (arith, nat_tests, e) in
        rw (here, get_or-set_same row (at + j) x (pos 0) within) is
    by false e =
        let other : i ≢ j = grind (arith, nat_tests, e) in
        let apart : at + i ≢ at + j = λ same. other (omega (arith, same)) in
        get_or-set_other row (at + j) (at + i) x (pos 0) apart ∙ part i (omega (arith, below, other))

-- what stands before it stays
pub part_before : (row : List ℤ) (at j i : ℕ) (x : ℤ) → i < at → number_at (slice_set row (at + j) x) i ≡ number_at row i
part_before row at j i x before = get_or-set_other row (at + j) i x (pos 0) (λ same. absurd (omega (arith, before, same)))

-- the last twelve of a row
pub last_twelve : (row : List ℤ) (n : ℕ) → slice_range row n (n + 12) ≡ drop n (take (12 + n) row)
last_twelve row n =
    let far : n + 12 - n ≡ 12 = omega arith in
    let same : 12 + n ≡ n + 12 = omega arith in
    rw (far, same) (sym (drop-take n 12 row))
