use Rattle.std.proofs.Common.{◌≡◌, ◌≤◌, ◌*◌, ◌++◌, drop}
use Rattle.arrayvec.specs.ArrayVec.{array_vec_len}
use Rattle.dsp_state.specs.Reach.{starts_from}
use Rattle.dsp_state.proofs.state.ChipState.starts.Given as goal

abbrev pub invariant-loop-v : goal.invariant-loop-v
invariant-loop-v l = record {
  starts : starts_from l.self l.memory 0 l.self.hidden.voices ≡ l.starts.items ++ starts_from l.self l.memory l.v (drop l.v l.self.hidden.voices);
  few : array_vec_len l.starts ≤ 2 * l.v;
}
