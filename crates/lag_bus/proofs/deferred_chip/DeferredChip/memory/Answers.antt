use Rattle.std.proofs.Common.{sym}
use Rattle.lag_bus.proofs.ChangesOfHeld.{late_memory}
use Rattle.lag_bus.proofs.deferred_chip.DeferredChip.memory.Goals as goal

pub returns : goal.returns
returns g c = rw (← c.self.view_is) (sym (late_memory g.met.C.Chip.lawful c.self.invariant.0 (rw (← c.self.view_is) at c.requires)))
