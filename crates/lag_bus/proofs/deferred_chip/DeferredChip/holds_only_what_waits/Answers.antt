use Rattle.lag_bus.proofs.deferred_chip.DeferredChip.holds_only_what_waits.Goals as goal

pub returns-clause-frames : goal.returns-clause-frames
returns-clause-frames g c = λ none. c.is_drained-drained.ensures.frames (c.is_drained-drained.ensures.none none)

pub returns-clause-records : goal.returns-clause-records
returns-clause-records g c = λ none. c.is_drained-drained.ensures.records (c.is_drained-drained.ensures.none none)
