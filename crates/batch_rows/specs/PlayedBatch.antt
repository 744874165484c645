-- What the voices leave of a batch of n samples.
use Rattle.std.specs.Prelude.{◌≡◌, ℕ, ◌-◌, ◌<◌, List, ℤ, pos, map, slice_index}
use Rattle.num_fix.specs.SignedWords.{number_at}
use Rattle.voice_unit.specs.Voice.{VoiceState}
use Rattle.voice_unit.specs.declared.interface.VoiceOut.{VoiceOut}
use Rattle.echo_unit.specs.declared.rows.SumRows.{SumRows}
use Rattle.dsp_state.specs.Mix.{shares_at, clamped_sum}
use Rattle.dsp_state.specs.Results.{bits_from}
use Rattle.dsp_state.specs.Sample.{SharedInput}
use Rattle.dsp_state.specs.declared.volumes.Volumes.{Volumes}
use Rattle.batch_rows.specs.Lane.{lanes, voices_after}

-- what the voices from v on give in sample j
abbrev pub answers_from : (shared : ℕ → SharedInput) → (v : ℕ) → (previous : ℕ → ℤ) → List VoiceState → (j : ℕ) → List VoiceOut
answers_from shared v previous voices j = map (λ result. result.answer) (lanes shared v previous voices j)

-- the sum at a volume in sample j
abbrev pub sum_of : (volume : Volumes → ℤ) → List Volumes → List VoiceOut → ℤ
sum_of volume volumes answers = clamped_sum (pos 0) (shares_at volume volumes answers)

-- the voices, their answers in the last sample, the bits of those that come to an end in each, and its sums
pub record IsPlayedBatch (shared : ℕ → SharedInput) (n : ℕ) (volumes : List Volumes) (before voices : List VoiceState)
    (last : List VoiceOut) (ends : List ℕ) (sums : SumRows) : Type 0 where
  pub voices_are : voices ≡ voices_after shared 0 (λ j. pos 0) before n
  pub last_is : last ≡ answers_from shared 0 (λ j. pos 0) before (n - 1)
  pub ends_are : (j : ℕ) → j < n → slice_index ends j ≡ bits_from (λ answer. answer.ended) 0 (answers_from shared 0 (λ j. pos 0) before j)
  pub main_left : (j : ℕ) → j < n → number_at sums.main_left j ≡ sum_of (λ one. one.left) volumes (answers_from shared 0 (λ j. pos 0) before j)
  pub main_right : (j : ℕ) → j < n → number_at sums.main_right j ≡ sum_of (λ one. one.right) volumes (answers_from shared 0 (λ j. pos 0) before j)
  pub sent_left : (j : ℕ) → j < n → number_at sums.sent_left j ≡ sum_of (λ one. one.sent_left) volumes (answers_from shared 0 (λ j. pos 0) before j)
  pub sent_right : (j : ℕ) → j < n → number_at sums.sent_right j ≡ sum_of (λ one. one.sent_right) volumes (answers_from shared 0 (λ j. pos 0) before j)
