-- The first place at which a number is least.
use Rattle.std.proofs.Common.{◌≡◌, ℕ, zero, suc, ◌+◌, ◌<◌, ◌≤◌, Bool, true, false, nat_lt, if◌then◌else◌, refl, inl, inr, arith, add-one}
use Rattle.std.proofs.lemmas.Bool.{cases_lt}
use Rattle.std.proofs.lemmas.Bool.Decides.{nat_tests}
use Rattle.brr_encode.specs.Least.{least_place, IsFirstLeast}

pub least_place-zero : (f : ℕ → ℕ) → least_place f 0 ≡ 0
unfolding least_place
least_place-zero f = refl

pub least_place-more : (f : ℕ → ℕ) (n : ℕ) → least_place f (n + 1) ≡ (if nat_lt (f n) (f (least_place f n)) then n else least_place f n)
unfolding least_place
least_place-more f n = rw add-one refl

pub least_place-one : (f : ℕ → ℕ) → least_place f 1 ≡ 0
unfolding least_place
least_place-one f = let no : nat_lt (f 0) (f 0) ≡ false = grind (arith, nat_tests) in rw no refl

-- one place more, by whether its number is smaller
one_more : (f : ℕ → ℕ) (n best : ℕ) (b : Bool) → nat_lt (f n) (f best) ≡ b → IsFirstLeast f n best → IsFirstLeast f (suc n) (if b then n else best)
one_more f n best true e h =
    let less : f n < f best = grind (arith, nat_tests, e) in
    record {
      within = omega arith;
      least = λ other o. elim (cases_lt other n) [
        | inl below ↦ let at : f best ≤ f other = h.least other below in omega arith
        | inr above ↦ let same : other ≡ n = omega arith in rw same (omega arith)
      ];
      first = λ before o. let at : f best ≤ f before = h.least before o in omega arith;
    }
one_more f n best false e h =
    let not_less : f best ≤ f n = grind (arith, nat_tests, e) in
    record {
      within = let w : best < n = h.within in omega arith;
      least = λ other o. elim (cases_lt other n) [
        | inl below ↦ h.least other below
        | inr above ↦ let same : other ≡ n = omega arith in rw same not_less
      ];
      first = h.first;
    }

pub least_place-first : (f : ℕ → ℕ) (n : ℕ) → 0 < n → IsFirstLeast f n (least_place f n)
unfolding least_place
least_place-first f zero h = absurd (omega arith)
least_place-first f (suc zero) h =
    let no : nat_lt (f 0) (f 0) ≡ false = grind (arith, nat_tests) in
    rw no (record {
      within = omega arith;
      least = λ other o. let same : other ≡ 0 = omega arith in rw same (omega arith);
      first = λ before o. absurd (omega arith);
    })
least_place-first f (suc (suc n)) h = one_more f (suc n) (least_place f (suc n)) (nat_lt (f (suc n)) (f (least_place f (suc n)))) refl (least_place-first f (suc n) (omega arith))
