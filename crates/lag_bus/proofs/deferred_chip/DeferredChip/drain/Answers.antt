use Rattle.lag_bus.proofs.ChangesOfHeld.{late_drained, late_ready_records, late_ready_frames, late_none_waits}
use Rattle.lag_bus.proofs.deferred_chip.DeferredChip.drain.Goals as goal

pub returns-clause-frames : goal.returns-clause-frames
returns-clause-frames g c = rw (c.move_frames.ensures.moved, ← c.self.view_is) (late_ready_frames g.met.C.Chip.lawful c.self.invariant.0)

pub returns-clause-records : goal.returns-clause-records
returns-clause-records g c = rw (c.move_records.ensures.moved, ← c.self.view_is) (late_ready_records g.met.C.Chip.lawful c.self.invariant.0)

pub returns-clause-rest : goal.returns-clause-rest
returns-clause-rest g c =
    rw (c.move_frames.ensures.none_left, c.move_records.ensures.none_left, ← c.self.view_is)
    (late_drained g.met.C.Chip.lawful c.self.invariant.0)

pub returns-clause-none_waits : goal.returns-clause-none_waits
returns-clause-none_waits g c = rw (← c.self.view_is, c.move_records.ensures.none_left) (λ none. late_none_waits g.met.C.Chip.lawful c.self.invariant.0 none)
