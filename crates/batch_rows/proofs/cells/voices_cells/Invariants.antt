use Rattle.std.proofs.Common.{◌≡◌, ℕ, ◌≤◌, ◌⊎◌, drop, length}
use Rattle.reach_laws.specs.CellsMiss.{CellsMissVoices}
use Rattle.batch_rows.specs.CellLine.{line_from}
use Rattle.batch_rows.proofs.cells.voices_cells.Given as goal

abbrev pub invariant-loop-v : goal.invariant-loop-v
invariant-loop-v l = record {
  few : l.left ≤ l.cells;
  rest : (n : ℕ) → n ≤ l.left → CellsMissVoices (line_from l.first) l.state l.memory n l.v (drop l.v l.state.hidden.voices)
      → CellsMissVoices (line_from l.first) l.state l.memory n 0 l.state.hidden.voices;
  eight : (l.v ≡ 0) ⊎ (length l.state.hidden.voices ≡ 8);
}
