use Rattle.std.proofs.Common.{◌≡◌, take, drop, map}
use Rattle.render_core.specs.Fade.{faded_from}
use Rattle.player.specs.Output.{stereo, as_frame}
use Rattle.player.proofs.output.fade_frames.Given as goal

-- so many are faded, and the others are as they were
abbrev pub invariant-loop-place : goal.invariant-loop-place
invariant-loop-place l = record {
  faded : take l.place l.out ≡ map stereo (faded_from l.at l.whole.frames l.whole.fade (map as_frame (take l.place l.fn.out)));
  rest : drop l.place l.out ≡ drop l.place l.fn.out;
}
