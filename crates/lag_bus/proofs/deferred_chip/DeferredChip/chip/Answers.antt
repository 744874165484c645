use Rattle.std.proofs.Common.{sym}
use Rattle.lag_bus.proofs.ChangesOfHeld.{late_chip}
use Rattle.lag_bus.proofs.deferred_chip.DeferredChip.chip.Goals as goal

pub returns-clause-state : goal.returns-clause-state
returns-clause-state g c = rw (← c.self.view_is) (λ none. sym (late_chip g.met.C.Chip.lawful c.self.invariant.0 none))
