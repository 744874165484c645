use Rattle.std.proofs.Common.{◌≡◌, ◌≤◌, ◌<◌, [], Some, slice_get, sym, ◌∙◌, arith, append_assoc, length-append}
use Rattle.std.proofs.lemmas.List.{append-nil}
use Rattle.lock_step.specs.SampleNumbers.{sample_number}
use Rattle.lag_bus.proofs.MergedRecords.{front_none, front_length, early_front, later_front, early_stop, later_stop, early_all, later_all}
use Rattle.lag_bus.proofs.merging.move_events_up_to.Goals as goal

pub events-preserved : goal.events-preserved
events-preserved c =
    let front : slice_get c.events.ring 0 ≡ Some c.in-Some.event = sym c.front.ensures ∙ c.in-Some.is in
    let small : sample_number c.in-Some.event ≤ c.args.upto = omega arith in
    let one = front_length c.events.ring c.in-Some.event front in (
      rw (c.push.ensures, c.pop_front.ensures.rest, append_assoc) (rw (early_front c.args.upto c.events.ring c.in-Some.event front small) at c.events.invariant.0),
      rw c.pop_front.ensures.rest (c.events.invariant.1 ∙ later_front c.args.upto c.events.ring c.in-Some.event front small),
      rw (c.push.ensures, c.pop_front.ensures.rest, length-append) (omega (arith, c.events.invariant.2)),
      c.events.invariant.3,
    )

pub returns-then-sample_number-upto-clause-ring : goal.returns-then-sample_number-upto-clause-ring
returns-then-sample_number-upto-clause-ring c =
    let front : slice_get c.events.ring 0 ≡ Some c.in-Some.event = sym c.front.ensures ∙ c.in-Some.is in
    let big : c.args.upto < sample_number c.in-Some.event = omega arith in
    sym (c.events.invariant.1 ∙ later_stop c.args.upto c.events.ring c.in-Some.event front big)

pub returns-then-sample_number-upto-clause-records : goal.returns-then-sample_number-upto-clause-records
returns-then-sample_number-upto-clause-records c =
    let front : slice_get c.events.ring 0 ≡ Some c.in-Some.event = sym c.front.ensures ∙ c.in-Some.is in
    let big : c.args.upto < sample_number c.in-Some.event = omega arith in
    sym (c.events.invariant.0 ∙ rw (early_stop c.args.upto c.events.ring c.in-Some.event front big) (append-nil c.events.records))

pub returns-in_default-clause-ring : goal.returns-in_default-clause-ring
returns-in_default-clause-ring c =
    let none = front_none c.events.ring (sym c.front.ensures ∙ c.in_default.is) in
    rw c.events.invariant.1 (rw none (sym (later_all c.args.upto [] tt)))

pub returns-in_default-clause-records : goal.returns-in_default-clause-records
returns-in_default-clause-records c =
    let none = front_none c.events.ring (sym c.front.ensures ∙ c.in_default.is) in
    rw (c.events.invariant.0, none, early_all c.args.upto [] tt) (sym (append-nil c.events.records))
