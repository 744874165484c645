use Rattle.std.proofs.Common.{rules}
use Rattle.dsp_state.specs.Valid.{is_valid}
use Rattle.dsp_core.proofs.dsp.Dsp.reg_write.Goals as goal

pub invariant_of-self : goal.invariant_of-self
unfolding is_valid
invariant_of-self c = record { clock = search rules; valid = c.self.invariant.valid; settings = search rules }

pub invariant_of-self-else-place-eq-KON : goal.invariant_of-self-else-place-eq-KON
unfolding is_valid
invariant_of-self-else-place-eq-KON c = record { clock = search rules; valid = c.self.invariant.valid; settings = search rules }
