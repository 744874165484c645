use Rattle.lag_bus.proofs.WritesToCome.{late_reads}
use Rattle.lag_bus.proofs.deferred_chip.DeferredChip.put_unread.Goals as goal

pub returns-clause-reads : goal.returns-clause-reads
returns-clause-reads g c = rw (← c.self.view_is) (λ fallen at value few free. late_reads g.met.C.Chip.lawful c.self.invariant.0 fallen at value few free)
