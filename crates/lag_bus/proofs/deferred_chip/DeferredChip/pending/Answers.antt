use Rattle.lag_bus.proofs.ChangesOfHeld.{late_reach}
use Rattle.lag_bus.proofs.deferred_chip.DeferredChip.pending.Goals as goal

pub returns-clause-reach : goal.returns-clause-reach
returns-clause-reach g c = rw (← c.self.view_is) (late_reach g.met.C.Chip.lawful c.self.invariant.0)
