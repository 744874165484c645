-- The sums over the voices: for each side the main sum of all voices, and what the voices of EON send to the echo.
use Rattle.std.specs.Prelude.{List, [], ◌∷◌, fold, ℤ, pos, ◌+ℤ◌}
use Rattle.num_fix.specs.Arithmetic.{scaled, clamp16}
use Rattle.num_fix.specs.declared.Frame.{Frame}
use Rattle.voice_unit.specs.declared.interface.VoiceOut.{VoiceOut}
use Rattle.dsp_state.specs.declared.volumes.Volumes.{Volumes}

-- what the voices give at one of their volumes: each its output at that volume, over 128
abbrev pub shares_at : (volume : Volumes → ℤ) → List Volumes → List VoiceOut → List ℤ
shares_at volume [] answers = []
shares_at volume (one ∷ volumes) [] = []
shares_at volume (one ∷ volumes) (answer ∷ answers) = scaled answer.out (volume one) 7 ∷ shares_at volume volumes answers

-- a sum that is limited to 16 bits after each share, from a first one on
abbrev pub clamped_sum : ℤ → List ℤ → ℤ
clamped_sum first shares = fold (λ sum share. clamp16 (sum +ℤ share)) first shares

-- the main sums of both sides
unfoldable pub main_frame : List Volumes → List VoiceOut → Frame
main_frame volumes answers = record {
  left = clamped_sum (pos 0) (shares_at (λ one. one.left) volumes answers);
  right = clamped_sum (pos 0) (shares_at (λ one. one.right) volumes answers);
}

-- what both sides send to the echo
unfoldable pub sent_frame : List Volumes → List VoiceOut → Frame
sent_frame volumes answers = record {
  left = clamped_sum (pos 0) (shares_at (λ one. one.sent_left) volumes answers);
  right = clamped_sum (pos 0) (shares_at (λ one. one.sent_right) volumes answers);
}
