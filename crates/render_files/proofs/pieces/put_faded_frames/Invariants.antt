use Rattle.std.proofs.Common.{◌≡◌, ◌+◌, ◌*◌, ◌++◌, length, drop}
use Rattle.std.specs.List.{flat_map}
use Rattle.wav_form.specs.Wave.{frame_bytes}
use Rattle.render_core.specs.Fade.{faded_from}
use Rattle.render_files.proofs.pieces.put_faded_frames.Given as goal

-- the bytes that were added, and those of the frames still to be looked at
abbrev pub invariant-loop-frame : goal.invariant-loop-frame
invariant-loop-frame l = record {
  here : l.place ≡ l.at + l.frame-index;
  room : length l.wave ≡ length l.fn.wave + 4 * l.frame-index;
  all : l.wave ++ flat_map frame_bytes (faded_from l.place l.samples l.fade (drop l.frame-index l.frames))
      ≡ l.fn.wave ++ flat_map frame_bytes (faded_from l.at l.samples l.fade l.frames);
}
