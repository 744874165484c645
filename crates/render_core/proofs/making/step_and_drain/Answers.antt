use Rattle.std.proofs.Common.{◌∙◌, ◌++◌, List, ap, sym}
use Rattle.trace_form.specs.declared.record.Record.{Record}
use Rattle.render_core.specs.Items.{run_records, records_before}
use Rattle.render_core.proofs.ItemsBeforeRun.{items-after_run-settled, end-after_run-settled, records_before-append}
use Rattle.lock_step.proofs.ChipCounts.{counts_on_then}
use Rattle.render_core.proofs.CountedSteps.{counted-drained}
use Rattle.render_core.proofs.making.step_and_drain.Goals as goal

pub returns-clause-hands_over : goal.returns-clause-hands_over
returns-clause-hands_over g c =
    let n = c.args.samples in
    let alike = c.take_iterations_and_steps.ensures.alike in
    record {
      frames =
          alike.frames
          ∙ items-after_run-settled g.B.Bus.means g.met.B.Bus.lawful g.B.DrainedBus.emits.cleared g.B.DrainedBus.emits.frames g.met.B.DrainedBus.emits_frames n
          c.take_iterations_and_steps.new.cpu c.take_iterations_and_steps.new.bus c.settle_at_end.new.bus c.drain.new.self c.drain.new.frames
          c.settle_at_end.ensures.frames c.settle_at_end.ensures.clock c.settle_at_end.ensures.still c.drain.ensures.frames c.drain.ensures.rest;
      records =
          ap (records_before n)
          (alike.records
          ∙ items-after_run-settled g.B.Bus.means g.met.B.Bus.lawful g.B.DrainedBus.emits.cleared g.B.DrainedBus.emits.records g.met.B.DrainedBus.emits_records n
          c.take_iterations_and_steps.new.cpu c.take_iterations_and_steps.new.bus c.settle_at_end.new.bus c.drain.new.self c.drain.new.records
          c.settle_at_end.ensures.records c.settle_at_end.ensures.clock c.settle_at_end.ensures.still c.drain.ensures.records c.drain.ensures.rest)
          ∙ records_before-append n c.drain.new.records _
          ∙ ap (λ (early : List Record). early ++ run_records g.B.Bus.means g.B.DrainedBus.emits n (c.take_iterations_and_steps.new.cpu, c.drain.new.self)) (sym c.keep_records_before.ensures);
      at_end =
          alike.at_end
          ∙ end-after_run-settled g.B.Bus.means g.met.B.Bus.lawful g.B.DrainedBus.emits.cleared g.B.DrainedBus.emits.frames g.met.B.DrainedBus.emits_frames n
          c.take_iterations_and_steps.new.cpu c.take_iterations_and_steps.new.bus c.settle_at_end.new.bus c.drain.new.self c.drain.new.frames
          c.settle_at_end.ensures.frames c.settle_at_end.ensures.clock c.settle_at_end.ensures.still c.drain.ensures.frames c.drain.ensures.rest
          g.B.DrainedBus.emits.at_rest g.met.B.DrainedBus.beside.at_rest c.settle_at_end.ensures.at_rest;
      counted =
          counts_on_then alike.counted
          (counts_on_then c.settle_at_end.ensures.counted
          (counted-drained g.B.Bus.means g.B.DrainedBus.emits g.met.B.DrainedBus.counting g.met.B.Bus.lawful g.B.DrainedBus.emits.frames g.met.B.DrainedBus.emits_frames g.met.B.DrainedBus.beside
          c.settle_at_end.new.bus c.drain.new.self c.drain.ensures.rest));
    }
