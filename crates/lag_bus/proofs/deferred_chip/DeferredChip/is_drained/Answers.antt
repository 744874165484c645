use Rattle.std.proofs.Common.{rules, ◌≡◌, length}
use Rattle.std.proofs.lemmas.List.{nil_from_length}
use Rattle.lag_bus.proofs.ChangesOfHeld.{none_ready, ready_frames_none, ready_records_none}
use Rattle.lag_bus.proofs.WritesToCome.{late_writes}
use Rattle.lag_bus.proofs.deferred_chip.DeferredChip.is_drained.Goals as goal

pub returns-then-is_empty-clause-drained : goal.returns-then-is_empty-clause-drained
returns-then-is_empty-clause-drained g c = λ empty.
    let frames : length c.self.inside.frames ≡ 0 = search rules in
    let records : length c.self.inside.records ≡ 0 = search rules in
    rw (← c.self.view_is) (none_ready g.met.C.Chip.lawful c.self.invariant.0 (nil_from_length c.self.inside.frames frames) (nil_from_length c.self.inside.records records))

pub returns-then-is_empty-clause-none : goal.returns-then-is_empty-clause-none
returns-then-is_empty-clause-none g c = rw (← c.self.view_is) (λ none.
    let records = ready_records_none g.met.C.Chip.lawful c.self.invariant.0 none in
    search rules)

pub returns-else-is_empty-clause-none : goal.returns-else-is_empty-clause-none
returns-else-is_empty-clause-none g c = rw (← c.self.view_is) (λ none.
    let frames = ready_frames_none g.met.C.Chip.lawful c.self.invariant.0 none in
    search rules)

pub returns-then-is_empty-clause-writes : goal.returns-then-is_empty-clause-writes
returns-then-is_empty-clause-writes g c = rw (← c.self.view_is) (λ fallen at few free. late_writes g.met.C.Chip.lawful c.self.invariant.0 fallen at few free)

pub returns-else-is_empty-clause-writes : goal.returns-else-is_empty-clause-writes
returns-else-is_empty-clause-writes g c = rw (← c.self.view_is) (λ fallen at few free. late_writes g.met.C.Chip.lawful c.self.invariant.0 fallen at few free)
