-- A voice that isn't modulated plays the same over any row of outputs of the voice before it.
use Rattle.std.proofs.Common.{◌≡◌, ℕ, zero, suc, ◌+◌, ◌-◌, ◌^◌, List, ℤ, Bool, true, false, slice_index, if◌then◌else◌, refl, ap, ◌∙◌}
use Rattle.num_fix.specs.SignedWords.{number_at}
use Rattle.voice_unit.specs.Voice.{VoiceState, is_modulated, voice_step, voice_answer, step_pitch, pitch_of, after_envelope, after_keys, after_silencing, output, source_sample}
use Rattle.dsp_state.specs.Settings.{voice_settings}
use Rattle.dsp_state.specs.Sample.{SharedInput, VoiceResult, voice_in, voice_result}
use Rattle.dsp_state.specs.declared.registers.TheConstants.{PMON}
use Rattle.dsp_state.specs.declared.state.ChipState.{ChipState}
use Rattle.batch_rows.specs.Rows.{inputs}
use Rattle.batch_rows.specs.Lane.{voice_after, lane}
use Rattle.batch_rows.specs.PlayedLane.{LaneMade, IsPlayedLane}
use Rattle.batch_rows.proofs.OneMore.{registers-keys_after}

module _ (shared : ℕ → SharedInput) (v : ℕ) (previous other : ℕ → ℤ) (voice : VoiceState)
    (unmodulated : (j : ℕ) → is_modulated (slice_index (shared j).registers PMON) v ≡ false) where
  result_same : (j : ℕ) (now : VoiceState) → voice_result (shared j) v (previous j) now ≡ voice_result (shared j) v (other j) now
  unfolding voice_result voice_in voice_settings voice_step voice_answer step_pitch pitch_of after_envelope after_keys after_silencing output source_sample
  result_same j now = rw (unmodulated j) refl

  after_same : (j : ℕ) → voice_after shared v previous voice j ≡ voice_after shared v other voice j
  unfolding voice_after voice_result
  after_same zero = refl
  after_same (suc j) = rw (after_same j) (ap (λ (result : VoiceResult). result.voice) (result_same j (voice_after shared v other voice j)))

  lane_same : (j : ℕ) → lane shared v previous voice j ≡ lane shared v other voice j
  unfolding lane
  lane_same j = rw (after_same j) (result_same j (voice_after shared v other voice j))

  pub played_same : (n : ℕ) (before : List ℕ) (made : LaneMade) → IsPlayedLane shared v n previous voice before made → IsPlayedLane shared v n other voice before made
  played_same n before made played = record {
    voice_is = played.voice_is ∙ after_same n;
    row_is = λ j few. played.row_is j few ∙ ap (λ (result : VoiceResult). result.answer.out) (lane_same j);
    ends_are = λ j few. played.ends_are j few ∙ ap (λ (result : VoiceResult). slice_index before j + (if result.answer.ended then 2 ^ v else 0)) (lane_same j);
    last_is = played.last_is ∙ ap (λ (result : VoiceResult). result.answer) (lane_same (n - 1));
  }

-- a row that is another one where the voice is modulated
pub played_over : (shared : ℕ → SharedInput) (pmon v n : ℕ) (previous other : List ℤ) (voice : VoiceState) (before : List ℕ) (made : LaneMade)
    → ((j : ℕ) → slice_index (shared j).registers PMON ≡ pmon) → (is_modulated pmon v ≡ true → previous ≡ other)
    → IsPlayedLane shared v n (number_at previous) voice before made → IsPlayedLane shared v n (number_at other) voice before made
played_over shared pmon v n previous other voice before made same taken played = by (is_modulated pmon v) refl
  where
    by : (b : Bool) → is_modulated pmon v ≡ b → IsPlayedLane shared v n (number_at other) voice before made
    by true e = rw (taken e) at played
    by false e = played_same shared v (number_at previous) (number_at other) voice (λ j. rw (same j) e) n before made played

-- PMON stays throughout a batch
pub same_pmon : (k : ℕ) (s : ChipState) (memory registers : List ℕ) → s.registers ≡ registers → (j : ℕ)
    → slice_index (inputs k s memory j).registers PMON ≡ slice_index registers PMON
unfolding inputs
same_pmon k s memory registers are j = ap (λ (those : List ℕ). slice_index those PMON) (registers-keys_after k s (suc j) ∙ are)
