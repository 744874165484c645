-- A voice over the rows of a batch makes the steps of its lane.
use Rattle.std.proofs.Common.{◌≡◌, ℕ, zero, suc, ◌+◌, ◌-◌, ◌^◌, ◌<◌, ◌≤◌, List, ℤ, slice_index, if◌then◌else◌, refl, ap, ◌∙◌, arith}
use Rattle.num_fix.specs.SignedWords.{number_at}
use Rattle.rate_clock.specs.Counter.{counter_at}
use Rattle.voice_unit.specs.Voice.{VoiceState}
use Rattle.voice_unit.specs.Batch.{Lane, lane_input, lane_inputs, steps, answer_of_step, answer_at}
use Rattle.voice_batch.specs.Play.{IsPlayed}
use Rattle.voice_unit.specs.declared.all_voices.BatchRows.{BatchRows}
use Rattle.voice_unit.specs.declared.interface.VoiceOut.{VoiceOut}
use Rattle.dsp_state.specs.Registers.{voice_regs}
use Rattle.dsp_state.specs.Settings.{voice_settings}
use Rattle.dsp_state.specs.Sample.{voice_in, voice_result}
use Rattle.dsp_state.specs.declared.state.ChipState.{ChipState}
use Rattle.batch_rows.specs.KeyRows.{AreKeyRows}
use Rattle.batch_rows.specs.Lane.{voice_after, lane}
use Rattle.batch_rows.specs.PlayedLane.{LaneMade, IsPlayedLane}
use Rattle.batch_rows.specs.Reads.{voice_view}
use Rattle.batch_rows.specs.Rows.{inputs}
use Rattle.batch_rows.proofs.OneMore.{registers-keys_after, table-keys_after}

-- the lane of a voice of a chip
abbrev pub chip_lane : ChipState → (v : ℕ) → BatchRows → (previous : List ℤ) → (memory : List ℕ) → VoiceState → (k : ℕ) → Lane
chip_lane s v rows previous memory voice k = record {
  regs = voice_regs s.registers v;
  inputs = lane_inputs (voice_view s.registers v) rows previous;
  memory = memory;
  table = s.table;
  k = k;
  voice = voice;
}

module _ (k n v : ℕ) (s : ChipState) (memory : List ℕ) (rows : BatchRows) (previous : List ℤ) (voice : VoiceState) (are : AreKeyRows k n s rows) where
  -- what it reads in a sample
  reads : (j : ℕ) → j < n → lane_inputs (voice_view s.registers v) rows previous j ≡ voice_in s.registers (inputs k s memory j).common v (number_at previous j)
  unfolding lane_input voice_in voice_settings inputs
  reads j few = rw (are.noise j few, are.polls j few, are.kon_latched j few) refl

  -- its steps
  pub steps_are : (j : ℕ) → j ≤ n
      → steps (voice_regs s.registers v) (lane_inputs (voice_view s.registers v) rows previous) memory (λ j. counter_at (k + j)) voice j
      ≡ voice_after (inputs k s memory) v (number_at previous) voice j
  unfolding steps voice_after voice_result inputs
  steps_are zero few = refl
  steps_are (suc j) few = rw (steps_are j (omega (arith, few)), reads j (omega (arith, few)), registers-keys_after k s (suc j)) refl

  -- and its answers
  pub answers_are : (j : ℕ) → j < n
      → answer_of_step (voice_regs s.registers v) (lane_inputs (voice_view s.registers v) rows previous) memory s.table (λ j. counter_at (k + j)) voice j
      ≡ (lane (inputs k s memory) v (number_at previous) voice j).answer
  unfolding answer_of_step lane voice_result inputs
  answers_are j few = rw (steps_are j (omega (arith, few)), reads j few, registers-keys_after k s (suc j), table-keys_after k s (suc j)) refl

  pub played_lane : (before : List ℕ) (made : LaneMade) → 0 < n
      → IsPlayed (chip_lane s v rows previous memory voice k) v n before made.ends made.row made.voice
      → made.last ≡ answer_at (chip_lane s v rows previous memory voice k) (n - 1)
      → IsPlayedLane (inputs k s memory) v n (number_at previous) voice before made
  played_lane before made some played last_is = record {
    voice_is = played.voice_is ∙ steps_are n (omega arith);
    row_is = λ j few. played.outs_are j few ∙ ap (λ (answer : VoiceOut). answer.out) (answers_are j few);
    ends_are = λ j few. played.ends_are j few ∙ ap (λ (answer : VoiceOut). slice_index before j + (if answer.ended then 2 ^ v else 0)) (answers_are j few);
    last_is = last_is ∙ answers_are (n - 1) (omega (arith, some));
  }
