use Rattle.std.proofs.Common.{◌≡◌, ℕ, ◌<◌, pos, get_or, length}
use Rattle.gauss_table.specs.StraightTable.{straight_weight}
use Rattle.gauss_table.proofs.table.GaussTable.straight.Given as goal

abbrev pub invariant-loop-i : goal.invariant-loop-i
invariant-loop-i l = (length l.weights ≡ 512) × ((k : ℕ) → k < l.i → get_or l.weights k (pos 0) ≡ straight_weight k)
