use Rattle.std.proofs.Common.{◌≡◌, ℕ, ◌<◌, Some, slice_get, length}
use Rattle.gauss_table.specs.Quads.{quad_at}
use Rattle.gauss_table.proofs.quad.quads_of.Given as goal

abbrev pub invariant-loop-i : goal.invariant-loop-i
invariant-loop-i l = (length l.quads ≡ 256) × ((k : ℕ) → k < l.i → slice_get l.quads k ≡ Some (quad_at l.weights k))
