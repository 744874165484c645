use Rattle.std.proofs.Common.{◌≡◌, ◌+◌, ◌≤◌, ◌++◌, length}
use Rattle.trace_form.specs.Capacities.{record_capacity}
use Rattle.lag_bus.proofs.merging.move_all.Given as goal

abbrev pub invariant-events : goal.invariant-events
invariant-events l = (l.initial.records ++ l.initial.ring ≡ l.records ++ l.ring) × (length l.records + length l.ring ≤ record_capacity)

abbrev pub decreases-events : goal.decreases-events
decreases-events l = length l.ring
