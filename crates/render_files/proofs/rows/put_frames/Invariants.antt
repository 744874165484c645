use Rattle.std.proofs.Common.{◌≡◌, ◌+◌, ◌-◌, ◌*◌, ◌≤◌, ◌++◌, length, drop}
use Rattle.std.specs.List.{flat_map}
use Rattle.wav_form.specs.Wave.{frame_bytes}
use Rattle.render_files.proofs.rows.put_frames.Given as goal

-- the bytes that were added, and those of the frames still to be looked at
abbrev pub invariant-rows : goal.invariant-rows
invariant-rows l = record {
  within : l.at ≤ length l.frames;
  room : length l.wave ≡ length l.fn.wave + 4 * l.at;
  all : l.wave ++ flat_map frame_bytes (drop l.at l.frames) ≡ l.fn.wave ++ flat_map frame_bytes l.frames;
}

abbrev pub decreases-rows : goal.decreases-rows
decreases-rows l = length l.frames - l.at
