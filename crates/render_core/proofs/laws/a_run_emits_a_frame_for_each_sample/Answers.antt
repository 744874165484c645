use Rattle.render_core.proofs.FrameEachSample.{length-frames-after_run}
use Rattle.render_core.proofs.laws.a_run_emits_a_frame_for_each_sample.Goals as goal

pub returns : goal.returns
returns g c = λ samples w few. length-frames-after_run g.B.Bus.means g.met.B.Bus.lawful g.B.DrainedBus.emits.frames g.met.B.DrainedBus.frame_each samples w few
