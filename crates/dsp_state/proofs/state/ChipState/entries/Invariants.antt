use Rattle.std.proofs.Common.{◌≡◌, ◌++◌, take, drop, length}
use Rattle.dsp_state.specs.Reach.{entries_from}
use Rattle.dsp_state.proofs.state.ChipState.entries.Given as goal

abbrev pub invariant-loop-v : goal.invariant-loop-v
invariant-loop-v l = record {
  entries : entries_from l.self.registers 0 l.self.hidden.voices ≡ take l.v l.entries ++ entries_from l.self.registers l.v (drop l.v l.self.hidden.voices);
  eight : length l.entries ≡ 8;
}
