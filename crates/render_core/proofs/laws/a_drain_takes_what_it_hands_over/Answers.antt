use Rattle.std.proofs.Common.{◌∙◌, ap}
use Rattle.render_core.specs.Items.{records_before}
use Rattle.render_core.proofs.ItemsBeforeRun.{items-after_run-drained, records_before-append}
use Rattle.render_core.proofs.laws.a_drain_takes_what_it_hands_over.Goals as goal

pub returns-clause-frames : goal.returns-clause-frames
returns-clause-frames g c = λ samples cpu old new given split same.
    items-after_run-drained g.B.Bus.means g.met.B.Bus.lawful g.B.DrainedBus.emits.cleared g.B.DrainedBus.emits.frames g.met.B.DrainedBus.emits_frames samples cpu old new given split same

pub returns-clause-records : goal.returns-clause-records
returns-clause-records g c = λ samples cpu old new given split same.
    ap (records_before samples)
    (items-after_run-drained g.B.Bus.means g.met.B.Bus.lawful g.B.DrainedBus.emits.cleared g.B.DrainedBus.emits.records g.met.B.DrainedBus.emits_records samples cpu old new given split same)
    ∙ records_before-append samples given _
