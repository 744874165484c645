use Rattle.std.proofs.Common.{◌≡◌, drop}
use Rattle.dsp_state.specs.Reach.{voices_read}
use Rattle.dsp_state.proofs.state.ChipState.voices_read.Given as goal

abbrev pub invariant-loop-v : goal.invariant-loop-v
invariant-loop-v l = voices_read l.self l.memory 0 l.self.hidden.voices l.page ≡ voices_read l.self l.memory l.v (drop l.v l.self.hidden.voices) l.page
