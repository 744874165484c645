-- Facts about each entry of a table, from a test that computes over the whole of it.
use Rattle.std.proofs.Common.{◌≡◌, ℕ, zero, suc, drop, ◌<◌, ◌≤◌, List, Bool, true, false, length, get_or, refl, arith, nat_le, nat_lt}
use Rattle.std.specs.List.{list_all}
use Rattle.std.proofs.lemmas.List.Folds.{list_all_at}
use Rattle.std.proofs.lemmas.Bool.Decides.{nat_tests}
use Rattle.std.proofs.lemmas.Bool.{true_from_ne_false, ltb-true}
use Rattle.rate_clock.specs.Counter.{periods, offsets}

-- a test that each entry passes holds at each place
pub list_all-entry : (p : ℕ → Bool) (xs : List ℕ) (i : ℕ) → i < length xs → list_all p xs ≡ true → p (get_or xs i 0) ≡ true
list_all-entry p xs i within h =
    true_from_ne_false (p (get_or xs i 0)) (λ e. let fails : list_all p xs ≡ false = list_all_at p xs i 0 within e in cc)

pub offset_bound : (rate : ℕ) → rate < 32 → get_or offsets rate 0 ≤ 1040
offset_bound rate h = let test : nat_le (get_or offsets rate 0) 1040 ≡ true = list_all-entry (λ x. nat_le x 1040) offsets rate h refl in grind (arith, nat_tests)

pub period_positive : (rate : ℕ) → 0 < rate → rate < 32 → 0 < get_or periods rate 0
period_positive zero positive h = absurd (omega arith)
period_positive (suc r) positive h =
    let test : nat_lt 0 (get_or (drop 1 periods) r 0) ≡ true = list_all-entry (λ x. nat_lt 0 x) (drop 1 periods) r (omega arith) refl in
    ltb-true 0 (get_or (drop 1 periods) r 0) test
