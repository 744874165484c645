use Rattle.std.proofs.Common.{◌≡◌, ℕ, ◌+◌, ◌-◌, ◌*◌, ◌<◌, ◌≤◌}
use Rattle.reach_map.specs.Reach.{chain_entry}
use Rattle.reach_laws.specs.CellsMiss.{CellsMiss}
use Rattle.batch_rows.specs.CellLine.{line_from}
use Rattle.batch_rows.proofs.cells.walked_cells.Given as goal

abbrev pub invariant-walk : goal.invariant-walk
invariant-walk l = record {
  few : l.left ≤ l.cells;
  turns : l.i ≤ 17;
  block : l.block ≡ chain_entry l.memory l.chain l.i;
  missed : (k : ℕ) → k < l.i → 4 * k ≤ l.left + 2 → CellsMiss (line_from l.first) l.left (chain_entry l.memory l.chain k) 9;
}

abbrev pub decreases-walk : goal.decreases-walk
decreases-walk l = 18 - l.i
