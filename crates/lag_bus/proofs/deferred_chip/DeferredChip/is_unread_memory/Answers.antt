use Rattle.lag_bus.proofs.deferred_chip.DeferredChip.is_unread_memory.Goals as goal

pub returns-clause-unread : goal.returns-clause-unread
returns-clause-unread g c = rw (← c.self.view_is) (c.is_unread_memory.ensures.unread _ _ _ c.self.invariant.1)

pub returns-clause-alone : goal.returns-clause-alone
returns-clause-alone g c = c.is_unread_memory.ensures.alone _ _ _ c.self.invariant.1
