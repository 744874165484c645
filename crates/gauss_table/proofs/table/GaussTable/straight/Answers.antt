use Rattle.std.proofs.Common.{◌≡◌, ℕ, ◌<◌, pos, get_or, arith}
use Rattle.std.proofs.lemmas.List.FromFn.{fill_by_all}
use Rattle.gauss_table.specs.StraightTable.{straight_table, straight_weight}
use Rattle.gauss_table.proofs.table.GaussTable.straight.Goals as goal

pub returns : goal.returns
returns c =
    let entries : (k : ℕ) → k < 512 → get_or c.loop-i.weights k (pos 0) ≡ straight_weight k = λ k below. c.loop-i.invariant.1 k (omega arith) in
    let whole : c.loop-i.weights ≡ straight_table = fill_by_all straight_weight c.loop-i.weights 512 (pos 0) c.loop-i.invariant.0 entries in
    rw whole at c.from_weights.ensures
