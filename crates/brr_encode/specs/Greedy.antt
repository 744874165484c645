-- A block's digits under one header, chosen one after another: each is the digit whose kept sample is nearest its target.
use Rattle.std.specs.Prelude.{ℕ, ◌+◌, ◌*◌, List, [], ◌∷◌, ℤ, pos, ◌-ℤ◌, unsigned_abs}
use Rattle.brr_decode.specs.Kept.{kept_sample}
use Rattle.brr_encode.specs.Least.{least_place}

-- how far two samples lie apart
unfoldable pub distance : ℤ → ℤ → ℕ
distance a b = unsigned_abs (a -ℤ b)

-- the sixteen digits in ascending order: -8 to 7
abbrev pub digit_at : ℕ → ℤ
digit_at place = pos place -ℤ pos 8

-- how far the kept sample of a digit lies from the target; p1 is the last kept sample and p2 the one before it
abbrev pub digit_distance : (header : ℕ) → (target p1 p2 : ℤ) → (place : ℕ) → ℕ
digit_distance header target p1 p2 place = distance (kept_sample header (digit_at place) p1 p2) target

-- the digit whose kept sample is nearest the target, the smallest of those that are equally near
unfoldable pub nearest_digit : (header : ℕ) → (target p1 p2 : ℤ) → ℤ
nearest_digit header target p1 p2 = digit_at (least_place (digit_distance header target p1 p2) 16)

-- the sample that is kept of it
unfoldable pub nearest_sample : (header : ℕ) → (target p1 p2 : ℤ) → ℤ
nearest_sample header target p1 p2 = kept_sample header (nearest_digit header target p1 p2) p1 p2

-- the digits of targets
abbrev pub greedy_digits : (header : ℕ) → (p1 p2 : ℤ) → (targets : List ℤ) → List ℤ
greedy_digits header p1 p2 [] = []
greedy_digits header p1 p2 (target ∷ targets) =
    nearest_digit header target p1 p2 ∷ greedy_digits header (nearest_sample header target p1 p2) p1 targets

-- the samples that are kept of them
abbrev pub greedy_samples : (header : ℕ) → (p1 p2 : ℤ) → (targets : List ℤ) → List ℤ
greedy_samples header p1 p2 [] = []
greedy_samples header p1 p2 (target ∷ targets) =
    let kept = nearest_sample header target p1 p2 in kept ∷ greedy_samples header kept p1 targets

-- the sum of the squared distances of samples from their targets
abbrev pub squares : (samples targets : List ℤ) → ℕ
squares (sample ∷ samples) (target ∷ targets) = distance sample target * distance sample target + squares samples targets
squares (sample ∷ samples) [] = 0
squares [] targets = 0

-- what a header costs: the squares of its greedy digits
abbrev pub greedy_squares : (header : ℕ) → (p1 p2 : ℤ) → (targets : List ℤ) → ℕ
greedy_squares header p1 p2 targets = squares (greedy_samples header p1 p2 targets) targets
