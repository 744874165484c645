-- What keeps a state valid: a write of a register, and a sample.
use Rattle.std.proofs.Common.{◌≡◌, ℕ, ◌+◌, ◌%◌, List, [], ◌∷◌, ℤ, pos, Bool, true, false, ◌&&◌, ◌==◌, nat_le, length, map, if◌then◌else◌, refl, ap, ◌∙◌, arith}
use Rattle.std.proofs.lemmas.Bool.{and_parts, and_from}
use Rattle.std.proofs.lemmas.Bool.Decides.{nat_tests}
use Rattle.std.specs.List.{list_all}
use Rattle.voice_unit.specs.Voice.{VoiceState, is_at_group}
use Rattle.voice_unit.proofs.Groups.{is_at_group-voice_step}
use Rattle.echo_unit.specs.Echo.{is_at_cell}
use Rattle.echo_unit.proofs.Cells.{is_at_cell-next_echo}
use Rattle.dsp_state.specs.Registers.{voice_regs, echo_regs}
use Rattle.dsp_state.specs.Results.{without_bits}
use Rattle.dsp_state.specs.Sample.{SharedInput, voice_in, voice_result, results_from, shared_input, after_poll, after_noise, before_voices, sample}
use Rattle.dsp_state.specs.Outside.{register_write}
use Rattle.dsp_state.specs.Valid.{is_valid}
use Rattle.dsp_state.specs.declared.state.ChipState.{ChipState}
use Rattle.dsp_state.proofs.EightVoices.{polled_part, voices-before_voices, length-voices-sample}

-- the parts of validity
pub record IsValid (s : ChipState) : Type 0 where
  pub eight : length s.hidden.voices ≡ 8
  pub groups : list_all is_at_group s.hidden.voices ≡ true
  pub cell : is_at_cell s.hidden.echo ≡ true

pub valid_of : (s : ChipState) → is_valid s ≡ true → IsValid s
unfolding is_valid
valid_of s h =
    let eight : Bool = length s.hidden.voices == 8 in
    let groups : Bool = list_all is_at_group s.hidden.voices in
    let p = and_parts (eight && groups) (is_at_cell s.hidden.echo) h in
    let q = and_parts eight groups p.0 in
    record { eight = grind (arith, nat_tests, q.0); groups = q.1; cell = p.1 }

pub valid_from : (s : ChipState) → IsValid s → is_valid s ≡ true
unfolding is_valid
valid_from s h =
    let eight : (length s.hidden.voices == 8) ≡ true = grind (arith, nat_tests, h.eight) in
    and_from _ _ (and_from _ _ eight h.groups) h.cell

is_at_group-voice_result : (shared : SharedInput) (v : ℕ) (previous : ℤ) (voice : VoiceState) → is_at_group voice ≡ true → is_at_group (voice_result shared v previous voice).voice ≡ true
unfolding voice_result
is_at_group-voice_result shared v previous voice h =
    is_at_group-voice_step voice (voice_regs shared.registers v) (voice_in shared.registers shared.common v previous) shared.memory shared.counter h

groups-results_from : (shared : SharedInput) (v : ℕ) (previous : ℤ) (voices : List VoiceState) → list_all is_at_group voices ≡ true
    → list_all is_at_group (map (λ result. result.voice) (results_from shared v previous voices)) ≡ true
groups-results_from shared v previous [] h = refl
groups-results_from shared v previous (voice ∷ voices) h =
    let parts = and_parts (is_at_group voice) (list_all is_at_group voices) h in
    and_from _ _ (is_at_group-voice_result shared v previous voice parts.0) (groups-results_from shared (v + 1) (voice_result shared v previous voice).answer.out voices parts.1)

-- the poll and the noise leave the echo alone
pub echo-before_voices : (s : ChipState) (k : ℕ) → (before_voices s k).hidden.echo ≡ s.hidden.echo
unfolding after_poll after_noise
echo-before_voices s k = polled_part (λ s. s.hidden.echo) (k % 2 == 0) s (without_bits s.hidden.kon_pending s.hidden.kon_latched) refl

-- a sample keeps a state valid
pub is_valid-sample : (k : ℕ) (s : ChipState) (memory : List ℕ) → is_valid s ≡ true → is_valid (sample k s memory).state ≡ true
unfolding sample
is_valid-sample k s memory h =
    let valid : IsValid s = valid_of s h in
    let now : ChipState = before_voices s k in
    valid_from (sample k s memory).state record {
      eight = length-voices-sample k s memory ∙ valid.eight;
      groups = groups-results_from (shared_input now memory k) 0 (pos 0) now.hidden.voices (ap (list_all is_at_group) (voices-before_voices s k) ∙ valid.groups);
      cell = is_at_cell-next_echo now.hidden.echo (echo_regs now.registers) memory (ap is_at_cell (echo-before_voices s k) ∙ valid.cell);
    }

-- a write of a register keeps a state valid
pub is_valid-register_write : (s : ChipState) (address byte : ℕ) → is_valid s ≡ true → is_valid (register_write s address byte) ≡ true
unfolding register_write is_valid
is_valid-register_write s address byte h = by (nat_le 0x80 address) _ _
  where
    by : (b : Bool) (registers : List ℕ) (kon_pending : ℕ) → is_valid (if b then s else record s { registers = registers; hidden = record s.hidden { kon_pending = kon_pending } }) ≡ true
    by true registers kon_pending = h
    by false registers kon_pending = h
