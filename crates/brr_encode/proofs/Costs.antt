-- What a header costs, target by target.
use Rattle.std.proofs.Common.{◌≡◌, ℕ, ◌+◌, ◌*◌, ◌<◌, ℤ, List, ◌∷◌, length, drop, get_or, drop-cons, add-one, refl, pos, arith}
use Rattle.brr_encode.specs.Greedy.{distance, nearest_sample, greedy_squares}

-- one target more
squares_next : (h : ℕ) (p1 p2 : ℤ) (targets : List ℤ) (i : ℕ) (d : ℤ) → i < length targets
    → greedy_squares h p1 p2 (drop i targets)
    ≡ distance (nearest_sample h (get_or targets i d) p1 p2) (get_or targets i d) * distance (nearest_sample h (get_or targets i d) p1 p2) (get_or targets i d)
    + greedy_squares h (nearest_sample h (get_or targets i d) p1 p2) p1 (drop (i + 1) targets)
squares_next h p1 p2 targets i d within =
    let cell : drop i targets ≡ get_or targets i d ∷ drop (i + 1) targets = rw add-one (drop-cons targets i d within) in
    rw cell refl

-- the costs so far and those still to come, one target further on
pub squares_carried : (h sum square total : ℕ) (last before kept carried : ℤ) (targets : List ℤ) (i : ℕ) → i < length targets
    → kept ≡ nearest_sample h (get_or targets i (pos 0)) last before → carried ≡ last
    → square ≡ distance (nearest_sample h (get_or targets i (pos 0)) last before) (get_or targets i (pos 0)) * distance (nearest_sample h (get_or targets i (pos 0)) last before) (get_or targets i (pos 0))
    → sum + greedy_squares h last before (drop i targets) ≡ total
    → sum + square + greedy_squares h kept carried (drop (i + 1) targets) ≡ total
squares_carried h sum square total last before kept carried targets i within kept_is carried_is square_is whole =
    let next = squares_next h last before targets i (pos 0) within in
    let rest : greedy_squares h kept carried (drop (i + 1) targets) ≡ greedy_squares h (nearest_sample h (get_or targets i (pos 0)) last before) last (drop (i + 1) targets) =
    (λ j. greedy_squares h (kept_is j) (carried_is j) (drop (i + 1) targets)) in
    omega (arith, next, rest, square_is, whole)
