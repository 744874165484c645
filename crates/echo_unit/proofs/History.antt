-- The last eight pairs, in an array that turns.
use Rattle.std.proofs.Common.{◌≡◌, sym, ℕ, ℤ, get_or, ◌+◌, List, [], ◌∷◌, ◌++◌, length, drop, take, set, refl, ap, arith}
use Rattle.std.specs.Prelude.{map}
use Rattle.std.specs.List.{range_with_len}
use Rattle.num_fix.specs.declared.Frame.{Frame}
use Rattle.num_fix.proofs.Entries.{drop-entries}
use Rattle.echo_unit.specs.Echo.{with_newest}

set_last : (xs : List Frame) (a z : Frame) → set (xs ++ a ∷ []) (length xs) z ≡ xs ++ z ∷ []
set_last [] a z = refl
set_last (x ∷ xs) a z = ap (λ (ys : List Frame). x ∷ ys) (set_last xs a z)

-- a history that was turned by one, with its last entry written
pub with_newest-turned : (l : List Frame) (n : ℕ) (z : Frame) → length l ≡ n + 1 → set (drop 1 l ++ take 1 l) n z ≡ with_newest l z
with_newest-turned [] n z e = absurd (omega arith)
with_newest-turned (x ∷ xs) n z e = let same : n ≡ length xs = omega arith in rw same (set_last xs x z)

-- a side of eight pairs, one by one
pub map-eight : (side : Frame → ℤ) (pairs : List Frame) (d : Frame) → length pairs ≡ 8 → map side pairs ≡ map side (map (λ j. get_or pairs j d) (range_with_len 0 8))
map-eight side pairs d eight = ap (map side) (drop-entries 8 0 pairs d (sym eight))
