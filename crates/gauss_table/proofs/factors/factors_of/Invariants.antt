use Rattle.std.proofs.Common.{◌≡◌, ℕ, ◌<◌, Some, slice_get, length}
use Rattle.gauss_table.specs.Factors.{factors_at}
use Rattle.gauss_table.proofs.factors.factors_of.Given as goal

abbrev pub invariant-loop-i : goal.invariant-loop-i
invariant-loop-i l = (length l.factors ≡ 256) × ((k : ℕ) → k < l.i → slice_get l.factors k ≡ Some (factors_at l.weights k))
