use Rattle.std.proofs.Common.{◌≤◌, ap, subst, ℕ}
use Rattle.std.proofs.lemmas.Bool.{leb-true}
use Rattle.render_core.specs.Items.{records_before}
use Rattle.render_core.proofs.RunBySteps.{items-after_run-none, after_run-over}
use Rattle.render_core.proofs.FrameEachSample.{some_to_come}
use Rattle.render_core.proofs.making.make_piece.Goals as goal

pub returns-clause-over : goal.returns-clause-over
returns-clause-over g c = λ is.
    let n = c.args.samples in
    let bus = g.B.Bus.means in
    let emits = g.B.DrainedBus.emits in
    let due = c.due-2.result in
    let all : n ≤ bus.due c.steps.bus = subst (λ (k : ℕ). n ≤ k) c.due-2.ensures (leb-true n due is) in
    record {
      still = after_run-over bus g.met.B.Bus.lawful n (c.steps.cpu, c.steps.bus) due c.due-2.ensures is;
      settled = c.steps.invariant.between_steps.pending all;
      frames = items-after_run-none bus g.met.B.Bus.lawful n emits.frames (c.steps.cpu, c.steps.bus) due c.due-2.ensures is c.steps.invariant.between_steps.frames;
      records = ap (records_before n) (items-after_run-none bus g.met.B.Bus.lawful n emits.records (c.steps.cpu, c.steps.bus) due c.due-2.ensures is c.steps.invariant.between_steps.records);
    }

pub returns-clause-more : goal.returns-clause-more
returns-clause-more g c = λ is.
    some_to_come g.B.Bus.means g.met.B.Bus.lawful g.B.DrainedBus.emits.frames g.met.B.DrainedBus.frame_each c.args.samples (c.steps.cpu, c.steps.bus) c.due-2.result c.due-2.ensures is
