-- The S-DSP keeps what each chip keeps.
use Rattle.std.proofs.Common.{◌≡◌, ℕ, ◌+◌, nat_le, List, [], ◌∷◌, pos, map, Bool, true, false, if◌then◌else◌, length, refl, ap, ◌∙◌, arith}
use Rattle.std.proofs.lemmas.Bool.{eq-eqb}
use Rattle.std.proofs.lemmas.List.{length-map}
use Rattle.voice_unit.specs.declared.interface.VoiceOut.{VoiceOut}
use Rattle.voice_unit.specs.Voice.{VoiceState}
use Rattle.dsp_state.specs.declared.state.ChipState.{ChipState}
use Rattle.dsp_state.specs.Outside.{register_write}
use Rattle.dsp_state.specs.Results.{without_bits}
use Rattle.dsp_state.specs.Sample.{VoiceResult, results_from, records_from, shared_input, is_polled, after_poll, after_noise, before_voices, sample}
use Rattle.dsp_state.specs.Valid.{is_valid}
use Rattle.dsp_state.proofs.EightVoices.{polled_part, length-results_from, voices-before_voices}
use Rattle.dsp_state.proofs.Valid.{valid_of, is_valid-sample, is_valid-register_write}
use Rattle.reach_laws.proofs.Registers.{registers_stay}
use Rattle.reach_laws.proofs.Starts.{reach_stays}
use Rattle.reach_laws.proofs.Within.{writes_inside, reads_inside}
use Rattle.chip_form.specs.ChipLaws.{IsLawfulChip, are_voice_records}
use Rattle.chip_form.specs.SavingLaws.{IsLawfulSaving}
use Rattle.dsp_core.specs.DspChip.{dsp_chip, dsp_saving}

-- the records of the voices from v on are those of the voices up to 7 where there are 8 - v
are_voice_records-records_from : (k v : ℕ) (answers : List VoiceOut) → v + length answers ≡ 8
    → are_voice_records k v (records_from k v answers) ≡ true
unfolding are_voice_records
are_voice_records-records_from k v [] full = eq-eqb v 8 (omega arith)
are_voice_records-records_from k v (answer ∷ answers) full =
    rw (eq-eqb k k refl, eq-eqb v v refl) (are_voice_records-records_from k (v + 1) answers (omega arith))

are_voice_records-sample : (k : ℕ) (s : ChipState) (memory : List ℕ) → is_valid s ≡ true → are_voice_records k 0 (sample k s memory).records ≡ true
unfolding sample
are_voice_records-sample k s memory valid =
    let now : ChipState = before_voices s k in
    let results : List VoiceResult = results_from (shared_input now memory k) 0 (pos 0) now.hidden.voices in
    let answers : List VoiceOut = map (λ (result : VoiceResult). result.answer) results in
    let all : length answers ≡ length s.hidden.voices =
    length-map results (λ (result : VoiceResult). result.answer)
    ∙ length-results_from (shared_input now memory k) 0 (pos 0) now.hidden.voices
    ∙ ap (λ (voices : List VoiceState). length voices) (voices-before_voices s k) in
    let eight : length s.hidden.voices ≡ 8 = (valid_of s valid).eight in
    are_voice_records-records_from k 0 answers (omega arith)

pub dsp_is_lawful : IsLawfulChip dsp_chip
dsp_is_lawful = record {
  write_keeps_valid = λ s address byte _ _ valid. is_valid-register_write s address byte valid;
  sample_keeps_valid = is_valid-sample;
  gives_voice_records = are_voice_records-sample;
  writes_inside = writes_inside;
  reads_inside = reads_inside;
  reach_stays = λ s memory at value _ free. reach_stays s memory at value free;
  registers_stay = λ n k s memory address _ free. registers_stay n k s memory address free;
}

-- a write of a register and a sample leave the table alone
table-register_write : (s : ChipState) (address byte : ℕ) → (register_write s address byte).table ≡ s.table
unfolding register_write
table-register_write s address byte = by (nat_le 0x80 address) _ _
  where
    by : (b : Bool) (registers : List ℕ) (kon_pending : ℕ)
        → (if b then s else record s { registers = registers; hidden = record s.hidden { kon_pending = kon_pending } }).table ≡ s.table
    by true registers kon_pending = refl
    by false registers kon_pending = refl

table-sample : (k : ℕ) (s : ChipState) (memory : List ℕ) → (sample k s memory).state.table ≡ s.table
unfolding sample after_poll after_noise
table-sample k s memory = polled_part (λ (s : ChipState). s.table) (is_polled k) s (without_bits s.hidden.kon_pending s.hidden.kon_latched) refl

pub dsp_saves_lawfully : IsLawfulSaving dsp_chip dsp_saving
dsp_saves_lawfully = record {
  loads_back = λ s k. refl;
  number_saved = λ s k. refl;
  loads_over = λ s v w. refl;
  write_keeps_fixed = λ s address byte v. λ i. record {
    registers = v.registers;
    hidden = v.hidden;
    table = table-register_write s address byte i;
    muted = v.muted;
  };
  sample_keeps_fixed = λ k s memory v. λ i. record {
    registers = v.registers;
    hidden = v.hidden;
    table = table-sample k s memory i;
    muted = v.muted;
  };
}
