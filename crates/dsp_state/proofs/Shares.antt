-- A sum over the voices, once none of them is left.
use Rattle.std.proofs.Common.{◌≡◌, ℕ, ◌≤◌, List, [], ℤ, length, drop, sym, ap, ◌∙◌}
use Rattle.std.proofs.lemmas.List.{drop_all}
use Rattle.num_fix.specs.declared.Frame.{Frame}
use Rattle.voice_unit.specs.declared.interface.VoiceOut.{VoiceOut}
use Rattle.dsp_state.specs.Mix.{shares_at, clamped_sum}
use Rattle.dsp_state.specs.declared.volumes.Volumes.{Volumes}

-- a sum over all voices, once none is left
pub sum_over : (volume : Volumes → ℤ) (volumes : List Volumes) (answers : List VoiceOut) (v : ℕ) (whole sum : ℤ)
    → length volumes ≤ v → whole ≡ clamped_sum sum (shares_at volume (drop v volumes) (drop v answers)) → sum ≡ whole
sum_over volume volumes answers v whole sum past is = let none : drop v volumes ≡ [] = drop_all v volumes past in sym (rw none at is)

-- a frame is known by its sides
pub frame_of : (frame : Frame) (left right : ℤ) → frame.left ≡ left → frame.right ≡ right → frame ≡ record { left = left; right = right }
frame_of frame left right is_left is_right =
    ap (λ (z : ℤ). record { left = z; right = frame.right }) is_left ∙ ap (λ (z : ℤ). record { left = left; right = z }) is_right
