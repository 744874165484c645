use Rattle.std.proofs.Common.{◌∙◌}
use Rattle.lag_bus.proofs.ChangesOfHeld.{late_register}
use Rattle.lag_bus.proofs.deferred_chip.DeferredChip.reg_read.Goals as goal

pub returns : goal.returns
returns g c = c.reg_read.ensures ∙ (rw (← c.self.view_is) (late_register g.met.C.Chip.lawful c.self.invariant.0 c.args.address (rw (← c.self.view_is) at c.requires)))
