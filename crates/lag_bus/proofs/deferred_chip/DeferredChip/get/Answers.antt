use Rattle.std.proofs.Common.{◌∙◌}
use Rattle.lag_bus.proofs.ChangesOfHeld.{late_get}
use Rattle.lag_bus.proofs.WritesToCome.{late_writes}
use Rattle.lag_bus.proofs.deferred_chip.DeferredChip.get.Goals as goal

pub returns-clause-byte : goal.returns-clause-byte
returns-clause-byte g c = c.get.ensures ∙ (rw (← c.self.view_is) (late_get g.met.C.Chip.lawful c.self.invariant.0 c.args.at (rw (← c.self.view_is) at c.requires)))

pub returns-clause-writes : goal.returns-clause-writes
returns-clause-writes g c = rw (← c.self.view_is) (λ fallen at few free. late_writes g.met.C.Chip.lawful c.self.invariant.0 fallen at few free)
