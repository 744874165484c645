use Rattle.lag_bus.proofs.ChangesOfHeld.{late_reach}
use Rattle.lag_bus.proofs.deferred_chip.DeferredChip.pending_may_write.Goals as goal

pub returns-then-self-eq0-clause-reach : goal.returns-then-self-eq0-clause-reach
returns-then-self-eq0-clause-reach g c = rw (← c.self.view_is) (late_reach g.met.C.Chip.lawful c.self.invariant.0)
