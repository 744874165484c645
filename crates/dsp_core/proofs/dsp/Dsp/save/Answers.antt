use Rattle.dsp_state.specs.Valid.{is_valid}
use Rattle.dsp_core.proofs.dsp.Dsp.save.Goals as goal

pub invariant_of-result : goal.invariant_of-result
unfolding is_valid
invariant_of-result c = record { clock = c.self.invariant.clock; valid = λ table muted. c.self.invariant.valid }
