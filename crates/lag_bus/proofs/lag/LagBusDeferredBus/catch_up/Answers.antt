use Rattle.std.proofs.Common.{◌≡◌, ◌⊎◌, inl, inr, ◌+◌, ◌-◌, ◌*◌, ◌/◌, ◌≤◌, arith}
use Rattle.lag_bus.specs.Deferred.{Deferred}
use Rattle.lag_bus.proofs.CapacityOfFallen.{frames_of_fallen, records_of_fallen}
use Rattle.lag_bus.proofs.lag.LagBusDeferredBus.catch_up.Goals as goal
use Rattle.spc700_exec.specs.declared.bus.TheConstants.{CYCLES_PER_SAMPLE}

pub queue_all-requires-clause-frames : goal.queue_all-requires-clause-frames
queue_all-requires-clause-frames g c =
    let deferred : Deferred g.row.C-State.Denot = c.self.inside.deferred in
    let clock = c.clock.ensures.clock in
    let behind = rw (← c.self.view_is) at c.requires in
    let counted : (c.self.inside.time.calls + (c.args.clock / CYCLES_PER_SAMPLE - c.self.inside.time.clock / CYCLES_PER_SAMPLE) ≤ c.args.calls) ⊎ (deferred.frames_used ≡ deferred.pending) =
    elim behind.counted [
      | inl each ↦ inl each
      | inr none ↦ inr (c.holds_only_what_waits.ensures.frames none)
    ] in
    let fits = frames_of_fallen deferred.frames_used deferred.pending (c.args.clock / CYCLES_PER_SAMPLE - c.self.inside.time.clock / CYCLES_PER_SAMPLE) c.self.inside.time.calls c.args.calls c.self.invariant.frames behind.free counted in
    let few = behind.few in
    rw clock (omega arith)

pub queue_all-requires-clause-records : goal.queue_all-requires-clause-records
queue_all-requires-clause-records g c =
    let deferred : Deferred g.row.C-State.Denot = c.self.inside.deferred in
    let clock = c.clock.ensures.clock in
    let behind = rw (← c.self.view_is) at c.requires in
    let counted : (c.self.inside.time.calls + (c.args.clock / CYCLES_PER_SAMPLE - c.self.inside.time.clock / CYCLES_PER_SAMPLE) ≤ c.args.calls) ⊎ (deferred.records_used ≡ deferred.events + 8 * deferred.pending) =
    elim behind.counted [
      | inl each ↦ inl each
      | inr none ↦ inr (c.holds_only_what_waits.ensures.records none)
    ] in
    let fits = records_of_fallen deferred.records_used deferred.events deferred.pending (c.args.clock / CYCLES_PER_SAMPLE - c.self.inside.time.clock / CYCLES_PER_SAMPLE) c.self.inside.time.calls c.args.calls c.self.invariant.records c.self.invariant.events behind.free counted in
    let few = behind.few in
    rw clock (omega arith)

pub invariant_of-self : goal.invariant_of-self
invariant_of-self g c =
    let deferred : Deferred g.row.C-State.Denot = c.self.inside.deferred in
    let clock = c.clock.ensures.clock in
    let fallen = c.args.clock / CYCLES_PER_SAMPLE - c.self.inside.time.clock / CYCLES_PER_SAMPLE in
    let behind = rw (← c.self.view_is) at c.requires in
    let waits = c.holds_only_what_waits.ensures in
    let counted_frames : (c.self.inside.time.calls + fallen ≤ c.args.calls) ⊎ (deferred.frames_used ≡ deferred.pending) =
    elim behind.counted [
      | inl each ↦ inl each
      | inr none ↦ inr (waits.frames none)
    ] in
    let counted_records : (c.self.inside.time.calls + fallen ≤ c.args.calls) ⊎ (deferred.records_used ≡ deferred.events + 8 * deferred.pending) =
    elim behind.counted [
      | inl each ↦ inl each
      | inr none ↦ inr (waits.records none)
    ] in
    let due = c.self.invariant.same_due in
    let earlier = behind.earlier in
    let free = behind.free in
    let fits = behind.fits in
    rw (c.queue_all.ensures, c.catch_up.ensures, clock)
    (record {
      same_batches = c.self.invariant.same_batches;
      same_due = omega arith;
      pending = behind.free;
      events = c.self.invariant.events;
      frames = frames_of_fallen deferred.frames_used deferred.pending fallen c.self.inside.time.calls c.args.calls c.self.invariant.frames behind.free counted_frames;
      records = records_of_fallen deferred.records_used deferred.events deferred.pending fallen c.self.inside.time.calls c.args.calls c.self.invariant.records c.self.invariant.events behind.free counted_records;
      adds_up = c.self.invariant.adds_up;
      time = omega arith;
      few = behind.few;
    })
