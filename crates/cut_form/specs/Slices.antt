-- Slices of a run, and cuts (own). `frames_to n` are the frames that the run from the opening emits until n samples are made.
use Rattle.std.specs.Prelude.{ℕ, ◌+◌, List, drop}
use Rattle.std.specs.List.{flat_map, sum_by}
use Rattle.cut_form.specs.declared.cut.Cut.{Cut}

-- so many frames from a sample on
abbrev pub slice_of : {A : Type 0} → (frames_to : ℕ → List A) → (start count : ℕ) → List A
slice_of frames_to start count = drop start (frames_to (start + count))

-- the frames of cuts, joined
abbrev pub cut_frames : {A : Type 0} → (frames_to : ℕ → List A) → List Cut → List A
cut_frames frames_to cuts = flat_map (λ cut. slice_of frames_to cut.start cut.count) cuts

-- how many they are
abbrev pub cut_samples : List Cut → ℕ
cut_samples cuts = sum_by (λ cut. cut.count) cuts
