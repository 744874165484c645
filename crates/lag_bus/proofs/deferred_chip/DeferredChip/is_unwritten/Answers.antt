use Rattle.lag_bus.proofs.deferred_chip.DeferredChip.is_unwritten.Goals as goal

pub returns : goal.returns
returns g c = rw (← c.self.view_is) (c.is_unwritten.ensures _ _ _ c.self.invariant.1)
