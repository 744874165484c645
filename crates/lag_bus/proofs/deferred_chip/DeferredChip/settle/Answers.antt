use Rattle.std.proofs.Common.{◌≤◌, ◌*◌, length, arith}
use Rattle.lag_bus.proofs.ChangesOfHeld.{late_settled, held_settled, records_within, voices_fit}
use Rattle.lag_bus.proofs.deferred_chip.DeferredChip.settle.Goals as goal

pub merge_into-requires : goal.merge_into-requires
merge_into-requires g c =
    let few : length c.make_samples.new.voice_records ≤ 8 * c.self.inside.pending = rw c.make_samples.ensures.made.records_made (voices_fit g.met.C.Chip.lawful c.self.invariant.0) in
    omega (arith, c.self.invariant.0.records_fit)

pub renew-requires : goal.renew-requires
renew-requires g c = c.self.invariant.1.kept

pub invariant_of-self : goal.invariant_of-self
invariant_of-self g c = (
  rw (c.make_samples.ensures.made.state_made, c.make_samples.ensures.sample, c.make_samples.ensures.made.memory_made, c.make_samples.ensures.made.frames_made, c.merge_into.ensures.ring, c.merge_into.ensures.records, c.make_samples.ensures.made.records_made)
      (held_settled g.met.C.Chip.lawful c.self.invariant.0 _ _),
  c.renew.ensures _,
)

pub returns-clause-made : goal.returns-clause-made
returns-clause-made g c =
    rw (c.make_samples.ensures.made.state_made, c.make_samples.ensures.sample, c.make_samples.ensures.batches, c.make_samples.ensures.total, c.make_samples.ensures.made.memory_made, c.make_samples.ensures.made.frames_made, c.merge_into.ensures.ring, c.merge_into.ensures.records, c.make_samples.ensures.made.records_made, ← c.self.view_is)
    (late_settled g.met.C.Chip.lawful c.self.invariant.0 _ _)

pub returns-clause-room : goal.returns-clause-room
returns-clause-room g c = rw (← c.self.view_is) (records_within g.met.C.Chip.lawful c.self.invariant.0)
