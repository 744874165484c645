use Rattle.lag_bus.proofs.deferred_chip.DeferredChip.is_unwritten_memory.Goals as goal

pub returns-clause-unwritten : goal.returns-clause-unwritten
returns-clause-unwritten g c = rw (← c.self.view_is) (c.is_unwritten_memory.ensures.unwritten _ _ _ c.self.invariant.1)

pub returns-clause-alone : goal.returns-clause-alone
returns-clause-alone g c = c.is_unwritten_memory.ensures.alone _ _ _ c.self.invariant.1
