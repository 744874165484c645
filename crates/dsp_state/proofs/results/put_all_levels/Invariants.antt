use Rattle.std.proofs.Common.{◌≡◌, drop}
use Rattle.dsp_state.specs.Results.{with_levels_from}
use Rattle.dsp_state.proofs.results.put_all_levels.Given as goal

abbrev pub invariant-loop-v : goal.invariant-loop-v
invariant-loop-v l = with_levels_from 0 l.answers l.initial.registers ≡ with_levels_from l.v (drop l.v l.answers) l.registers
