use Rattle.std.proofs.Common.{◌≡◌, ◌*◌, ◌++◌, length, take, drop}
use Rattle.std.specs.List.{flat_map}
use Rattle.wav_form.specs.Wave.{frame_bytes}
use Rattle.render_files.proofs.rows.put_row.Given as goal

-- the bytes of the row so far, and those of the frames still to be looked at
abbrev pub invariant-loop-frame : goal.invariant-loop-frame
invariant-loop-frame l = record {
  here : l.end ≡ 4 * l.frame-index;
  size : length l.row ≡ 512;
  all : take l.end l.row ++ flat_map frame_bytes (drop l.frame-index l.frames) ≡ flat_map frame_bytes l.frames;
}
