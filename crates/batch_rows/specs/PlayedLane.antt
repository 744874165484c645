-- What a voice leaves of a batch of n samples.
use Rattle.std.specs.Prelude.{◌≡◌, ℕ, ◌+◌, ◌-◌, ◌^◌, ◌<◌, List, ℤ, slice_index, if◌then◌else◌}
use Rattle.num_fix.specs.SignedWords.{number_at}
use Rattle.voice_unit.specs.Voice.{VoiceState}
use Rattle.voice_unit.specs.declared.interface.VoiceOut.{VoiceOut}
use Rattle.dsp_state.specs.Sample.{SharedInput}
use Rattle.batch_rows.specs.Lane.{voice_after, lane, outs}

-- the voice, the row of its outputs, the bytes of the samples with the bits of the voices that come to an end in each, and its answer of the last sample
pub record LaneMade : Type 0 where
  pub voice : VoiceState
  pub row : List ℤ
  pub ends : List ℕ
  pub last : VoiceOut

-- what voice v makes of its lane; the bytes of ends get its bit beside what they had before
pub record IsPlayedLane (shared : ℕ → SharedInput) (v n : ℕ) (previous : ℕ → ℤ) (before : VoiceState) (ends_before : List ℕ) (made : LaneMade) : Type 0 where
  pub voice_is : made.voice ≡ voice_after shared v previous before n
  pub row_is : (j : ℕ) → j < n → number_at made.row j ≡ outs shared v previous before j
  pub ends_are : (j : ℕ) → j < n
      → slice_index made.ends j ≡ slice_index ends_before j + (if (lane shared v previous before j).answer.ended then 2 ^ v else 0)
  pub last_is : made.last ≡ (lane shared v previous before (n - 1)).answer
