use Rattle.std.proofs.Common.{rules, refl}
use Rattle.dsp_state.specs.Valid.{is_valid}
use Rattle.dsp_core.proofs.dsp.Dsp.open.Goals as goal

pub invariant_of-result : goal.invariant_of-result
unfolding is_valid
invariant_of-result c = record { clock = search rules; valid = rw (c.new-3.ensures, c.new-4.ensures) refl; settings = search rules }
