use Rattle.std.proofs.Common.{◌+◌, ◌++◌, List, refl, ap, ◌∙◌, arith, append_assoc, length-append, length-drop}
use Rattle.std.proofs.lemmas.List.{drop_all}
use Rattle.trace_form.specs.declared.record.Record.{Record}
use Rattle.lag_bus.proofs.MergedRecords.{merge_step, merge_end}
use Rattle.lag_bus.proofs.merging.merge_into.Goals as goal

pub voices-preserved : goal.voices-preserved
voices-preserved c =
    let next = c.voices.invariant.0 ∙ ap (λ (xs : List Record). c.voices.records ++ xs) (merge_step c.as_slice-all.result.now c.voices.voice-index _ c.voices.ring c.voices-test.true) in (
      rw (c.push.ensures, c.move_events_up_to.ensures.records, c.move_events_up_to.ensures.ring, c.sample_number.ensures, append_assoc, append_assoc) next,
      rw (c.push.ensures, length-append) (omega (arith, c.voices.invariant.1, c.move_events_up_to.ensures.all, length-drop c.voices.voice-index c.as_slice-all.result.now, length-drop (c.voices.voice-index + 1) c.as_slice-all.result.now)),
    )

pub returns-clause-records : goal.returns-clause-records
returns-clause-records c =
    let end = drop_all c.voices.voice-index c.as_slice-all.result.now c.voices-test.false in
    rw (c.move_all.ensures.records, ← c.as_slice-all.ensures.records, c.voices.invariant.0, end, merge_end) refl
