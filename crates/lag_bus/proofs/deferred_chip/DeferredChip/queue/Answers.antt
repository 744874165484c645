use Rattle.lag_bus.proofs.ChangesOfHeld.{late_queue}
use Rattle.lag_bus.proofs.deferred_chip.DeferredChip.queue.Goals as goal

pub returns : goal.returns
returns g c = rw (← c.self.view_is) (late_queue g.met.C.Chip.lawful c.self.invariant.0)
