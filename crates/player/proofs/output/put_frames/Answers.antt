use Rattle.std.proofs.Common.{take, pos, arith}
use Rattle.num_fix.specs.declared.Frame.{Frame}
use Rattle.player.specs.Output.{stereo}
use Rattle.player.proofs.Putting.{put_more, leave_more}
use Rattle.player.proofs.output.put_frames.Goals as goal

pub loop-place-preserved : goal.loop-place-preserved
loop-place-preserved c = let none : Frame = record { left = pos 0; right = pos 0 } in record {
  put = put_more stereo (take c.args.from c.args.out.now) c.args.frames.now none c.loop-place.out c.args.out.now c.args.from c.loop-place.place c.stereo.result c.loop-place-test.true (omega (arith, c.requires, c.loop-place.auto.out, c.loop-place-test.true)) c.stereo.ensures c.loop-place.invariant.put;
  rest = leave_more stereo (take c.args.from c.args.out.now) c.args.frames.now none c.loop-place.out c.args.out.now c.args.from c.loop-place.place c.stereo.result c.loop-place.invariant.rest;
}
