-- Before the first piece the header and the frames to come are the whole file.
use Rattle.std.proofs.Common.{◌≡◌, ℕ, List, [], ◌++◌, length, refl}
use Rattle.std.specs.List.{flat_map}
use Rattle.num_fix.specs.declared.Frame.{Frame}
use Rattle.wav_form.specs.Wave.{frame_bytes, header_of, stereo_wave}

pub whole_wave : (begun to_come frames : List Frame) (count : ℕ) → begun ≡ [] → to_come ≡ frames → count ≡ length frames
    → header_of 2 count ++ flat_map frame_bytes (begun ++ to_come) ≡ stereo_wave frames
whole_wave begun to_come frames count none same is = rw (none, same, is) refl
