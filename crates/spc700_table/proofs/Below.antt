-- A test that all numbers below a bound pass holds at each of them.
use Rattle.std.proofs.Common.{◌≡◌, ℕ, ◌<◌, Bool, true, get_or, subst, arith}
use Rattle.std.specs.List.{range_with_len, list_all}
use Rattle.std.proofs.lemmas.List.Elements.{All-get_or}
use Rattle.std.proofs.lemmas.List.Sums.{AllPass-from_list_all}
use Rattle.std.proofs.lemmas.List.FromFn.{get_or-range_with_len, length-range_with_len}

pub list_all_below : (test : ℕ → Bool) (n k : ℕ) → list_all test (range_with_len 0 n) ≡ true → k < n → test k ≡ true
list_all_below test n k all below =
    let inside = length-range_with_len 0 n in
    let entry : get_or (range_with_len 0 n) k 0 ≡ k = omega (arith, get_or-range_with_len 0 n k 0 below) in
    let at : test (get_or (range_with_len 0 n) k 0) ≡ true = All-get_or (λ i. test i ≡ true) (range_with_len 0 n) k 0 (omega arith) (AllPass-from_list_all test (range_with_len 0 n) all) in
    subst (λ (i : ℕ). test i ≡ true) entry at
