use Rattle.std.proofs.Common.{◌≡◌, ◌+◌, ◌≤◌, ◌++◌, length}
use Rattle.lag_bus.specs.Merge.{events_up_to, events_after}
use Rattle.trace_form.specs.Capacities.{record_capacity}
use Rattle.lag_bus.proofs.merging.move_events_up_to.Given as goal

abbrev pub invariant-events : goal.invariant-events
invariant-events l =
    (l.initial.records ++ events_up_to l.upto l.initial.ring ≡ l.records ++ events_up_to l.upto l.ring)
    × (events_after l.upto l.initial.ring ≡ events_after l.upto l.ring)
    × (length l.records + length l.ring ≡ length l.initial.records + length l.initial.ring)
    × (length l.initial.records + length l.initial.ring ≤ record_capacity)

abbrev pub decreases-events : goal.decreases-events
decreases-events l = length l.ring
