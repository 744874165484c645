use Rattle.std.proofs.Common.{◌≡◌, ◌∙◌, ◌+◌, ◌<◌, ap, pos, length, get_or, arith}
use Rattle.render_core.specs.Fade.{faded_frame}
use Rattle.player.specs.declared.output.StereoFrame.{StereoFrame}
use Rattle.player.specs.Output.{stereo, as_frame}
use Rattle.player.proofs.Fading.{fade_more, leave_rest}
use Rattle.player.proofs.output.fade_frames.Goals as goal

pub loop-place-preserved : goal.loop-place-preserved
loop-place-preserved c =
    let none : StereoFrame = record { left = pos 0; right = pos 0 } in
    let at = c.args.at in let whole = c.args.whole in let place = c.loop-place.place in
    let room : place < length c.loop-place.out = omega (arith, c.loop-place.auto.out, c.loop-place-test.true) in
    let within : place < length c.args.out.now = omega (arith, c.loop-place.auto.out, c.loop-place-test.true) in
    let is : c.stereo.result ≡ stereo (faded_frame (as_frame (get_or c.loop-place.out place none)) (at + place) whole.frames whole.fade) =
    c.stereo.ensures ∙ ap stereo (c.faded.ensures ∙ ap (λ frame. faded_frame frame (at + place) whole.frames whole.fade) c.as_frame-frame.ensures) in
    record {
      faded = fade_more at whole.frames whole.fade c.loop-place.out c.args.out.now none place c.stereo.result within room is c.loop-place.invariant.faded c.loop-place.invariant.rest;
      rest = leave_rest at whole.frames whole.fade c.loop-place.out c.args.out.now none place c.stereo.result c.loop-place.invariant.rest;
    }
