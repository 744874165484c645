-- What the voices, the echo and the results leave of a batch by rows.
use Rattle.std.proofs.Common.{◌≡◌, ℕ, zero, suc, ◌+◌, ◌-◌, ◌<◌, List, [], ◌∷◌, ℤ, pos, Bool, true, false, length, map, get_or, slice_index, slice_set, if◌then◌else◌, refl, ap, sym, ◌∙◌, arith}
use Rattle.voice_unit.specs.Voice.{VoiceState}
use Rattle.voice_unit.specs.declared.all_voices.BatchRows.{BatchRows}
use Rattle.voice_unit.specs.declared.interface.VoiceOut.{VoiceOut}
use Rattle.echo_unit.specs.EchoOverBatch.{main_of, sent_of, echo_over_sums}
use Rattle.echo_unit.specs.declared.rows.SumRows.{SumRows}
use Rattle.dsp_state.specs.Mix.{main_frame, sent_frame}
use Rattle.dsp_state.specs.Registers.{echo_regs}
use Rattle.dsp_state.specs.Results.{bits_from, with_levels_from}
use Rattle.dsp_state.specs.Sample.{SharedInput, VoiceResult}
use Rattle.dsp_state.specs.Volumes.{all_volumes}
use Rattle.dsp_state.specs.declared.registers.TheConstants.{ENDX}
use Rattle.dsp_state.specs.declared.state.ChipState.{ChipState}
use Rattle.batch_rows.specs.KeyRows.{AreKeyRows}
use Rattle.batch_rows.specs.Lane.{outs, voices_after}
use Rattle.batch_rows.specs.Once.{endx_after, put_once, AreBits}
use Rattle.batch_rows.specs.PlayedBatch.{answers_from, IsPlayedBatch}
use Rattle.batch_rows.specs.Rows.{inputs, answers, echo_after, results_after}
use Rattle.batch_rows.proofs.EchoOver.{echo_over-rows}
use Rattle.batch_rows.proofs.Keyed.{keyed_bits}
use Rattle.batch_rows.proofs.Lanes.{results_from-lanes}
use Rattle.batch_rows.proofs.ResultsOfBatch.{results_once}

length-voices_after : (shared : ℕ → SharedInput) (v : ℕ) (previous : ℕ → ℤ) (voices : List VoiceState) (n : ℕ) → length (voices_after shared v previous voices n) ≡ length voices
length-voices_after shared v previous [] n = refl
length-voices_after shared v previous (voice ∷ voices) n = ap suc (length-voices_after shared (v + 1) (outs shared v previous voice) voices n)

length-answers_from : (shared : ℕ → SharedInput) (v : ℕ) (previous : ℕ → ℤ) (voices : List VoiceState) (j : ℕ) → length (answers_from shared v previous voices j) ≡ length voices
length-answers_from shared v previous [] j = refl
length-answers_from shared v previous (voice ∷ voices) j = ap suc (length-answers_from shared (v + 1) (outs shared v previous voice) voices j)

-- the results of a batch of some samples, by the answers of its last
results_last : (rows : ℕ → List VoiceOut) (registers : List ℕ) (n : ℕ) → 0 < n → ((j : ℕ) → length (rows j) ≡ 8) → ENDX < length registers
    → results_after rows registers n ≡ put_once (rows (n - 1)) (endx_after rows (slice_index registers ENDX) n) registers
results_last rows registers zero some eight long = absurd (omega (arith, some))
results_last rows registers (suc m) some eight long = let same : suc m - 1 ≡ m = omega arith in rw same (results_once rows registers m eight long)

-- the voices that are keyed in a sample
pub keyed_are : (k n : ℕ) (s : ChipState) (memory : List ℕ) (rows : BatchRows) → length s.hidden.voices ≡ 8 → AreKeyRows k n s rows → ((j : ℕ) → j < n → slice_index rows.kon j < 0x100)
    → (j : ℕ) → j < n → (if get_or rows.poll j false then slice_index rows.kon j else 0) ≡ bits_from (λ answer. answer.keyed) 0 (answers k s memory j)
unfolding answers inputs
keyed_are k n s memory rows eight are small j few =
    keyed_bits (inputs k s memory j) (voices_after (inputs k s memory) 0 (λ j. pos 0) s.hidden.voices j) (if get_or rows.poll j false then slice_index rows.kon j else 0)
    (length-voices_after (inputs k s memory) 0 (λ j. pos 0) s.hidden.voices j ∙ eight) (below (get_or rows.poll j false) (slice_index rows.kon j) (small j few)) same
    ∙ ap (λ (results : List VoiceResult). bits_from (λ answer. answer.keyed) 0 (map (λ (one : VoiceResult). one.answer) results)) (results_from-lanes (inputs k s memory) 0 (λ j. pos 0) s.hidden.voices j)
  where
    same : (if get_or rows.poll j false then slice_index rows.kon j else 0) ≡ (if (inputs k s memory j).common.is_poll then (inputs k s memory j).common.kon_latched else 0)
    same = rw (are.polls j few, are.kon_latched j few) refl

    below : (b : Bool) (kon : ℕ) → kon < 0x100 → (if b then kon else 0) < 0x100
    below true kon h = h
    below false kon h = omega arith

module _ (k n : ℕ) (s : ChipState) (memory : List ℕ) (voices : List VoiceState) (last : List VoiceOut) (ends : List ℕ) (sums : SumRows)
    (played : IsPlayedBatch (inputs k s memory) n (all_volumes s.registers s.muted) s.hidden.voices voices last ends sums) where
  pub echo_is : echo_over_sums (echo_regs s.registers) sums s.hidden.echo memory n ≡ echo_after k s memory n
  unfolding echo_after answers main_frame sent_frame
  echo_is =
      echo_over-rows (echo_regs s.registers) (main_of sums) (λ j. main_frame (all_volumes s.registers s.muted) (answers k s memory j)) (sent_of sums) (λ j. sent_frame (all_volumes s.registers s.muted) (answers k s memory j))
      s.hidden.echo memory n
      (λ j few. rw (played.main_left j few, played.main_right j few) refl)
      (λ j few. rw (played.sent_left j few, played.sent_right j few) refl)

  pub registers_are : (endx : ℕ) → 0 < n → length s.hidden.voices ≡ 8 → ENDX < length s.registers → endx ≡ endx_after (answers k s memory) (slice_index s.registers ENDX) n
      → slice_set (with_levels_from 0 last s.registers) ENDX endx ≡ results_after (answers k s memory) s.registers n
  unfolding answers
  registers_are endx some eight long is =
      rw (played.last_is, is) (sym (results_last (answers k s memory) s.registers n some (λ j. length-answers_from (inputs k s memory) 0 (λ j. pos 0) s.hidden.voices j ∙ eight) long))

  pub bits_are : (rows : BatchRows) → length s.hidden.voices ≡ 8 → AreKeyRows k n s rows → ((j : ℕ) → j < n → slice_index rows.kon j < 0x100) → AreBits n (answers k s memory) rows ends
  unfolding answers
  bits_are rows eight are small = record { ended = λ j few. played.ends_are j few; keyed = λ j few. keyed_are k n s memory rows eight are small j few }
