use Rattle.std.proofs.Common.{◌≡◌, ◌+◌, ◌≤◌, ◌++◌, length, drop}
use Rattle.lag_bus.specs.Merge.{merge}
use Rattle.trace_form.specs.Capacities.{record_capacity}
use Rattle.lag_bus.proofs.merging.merge_into.Given as goal

abbrev pub invariant-voices : goal.invariant-voices
invariant-voices l =
    (l.initial.records ++ merge l.all l.initial.ring ≡ l.records ++ merge (drop l.voice-index l.all) l.ring)
    × (length l.records + length l.ring + length (drop l.voice-index l.all) ≤ record_capacity)
