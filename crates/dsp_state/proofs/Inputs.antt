-- Samples leave every register but those of their results.
use Rattle.std.proofs.Common.{◌≡◌, ◌≢◌, ℕ, ◌+◌, ◌*◌, ◌%◌, ◌==◌, ◌||◌, List, [], ◌∷◌, Bool, false, pos, map, slice_index, slice_set, refl, ap, ◌∙◌, arith}
use Rattle.std.proofs.lemmas.Bool.{or_parts}
use Rattle.std.proofs.lemmas.Bool.Decides.{nat_tests}
use Rattle.std.proofs.lemmas.List.{get_or-set_other}
use Rattle.voice_unit.specs.declared.interface.VoiceOut.{VoiceOut}
use Rattle.dsp_state.specs.Results.{is_result, with_levels_from, registers_after, next_endx, without_bits}
use Rattle.dsp_state.specs.Sample.{results_from, shared_input, after_poll, after_noise, before_voices, sample}
use Rattle.dsp_state.specs.declared.registers.TheConstants.{ENVX, OUTX, ENDX}
use Rattle.dsp_state.specs.declared.state.ChipState.{ChipState}
use Rattle.dsp_state.proofs.EightVoices.{polled_part}

-- the registers that samples don't write are the same in both lists
abbrev pub SameInputs : (these those : List ℕ) → Type 0
SameInputs these those = (address : ℕ) → is_result address ≡ false → slice_index these address ≡ slice_index those address

-- what an address that is no result's is apart from
record IsInput (register : ℕ) : Type 0 where
  envx : register % 16 ≢ ENVX
  outx : register % 16 ≢ OUTX
  endx : register ≢ ENDX

-- what an address that is no result's is apart from follows from the test
is_input : (address : ℕ) → is_result address ≡ false → IsInput address
is_input address h =
    let register : ℕ = address % 0x80 in
    let envx : Bool = register % 16 == ENVX in
    let outx : Bool = register % 16 == OUTX in
    let endx : Bool = register == ENDX in
    let levels = (or_parts (envx || outx) endx h).0 in
    let not_envx : address % 0x80 % 16 ≢ 8 = grind (arith, nat_tests, (or_parts envx outx levels).0) in
    let not_outx : address % 0x80 % 16 ≢ 9 = grind (arith, nat_tests, (or_parts envx outx levels).1) in
    let not_endx : address % 0x80 ≢ 0x7c = grind (arith, nat_tests, (or_parts (envx || outx) endx h).1) in
    record { envx = λ e. not_envx (omega (arith, e)); outx = λ e. not_outx (omega (arith, e)); endx = λ e. not_endx (omega (arith, e)) }

-- ENVX and OUTX change no other register
levels_elsewhere : (v : ℕ) (answers : List VoiceOut) (registers : List ℕ) (register : ℕ) → IsInput register
    → slice_index (with_levels_from v answers registers) register ≡ slice_index registers register
levels_elsewhere v [] registers register h = refl
levels_elsewhere v (answer ∷ answers) registers register h =
    let not_envx : register ≢ 16 * v + ENVX = λ e. h.envx (omega (arith, e)) in
    let not_outx : register ≢ 16 * v + OUTX = λ e. h.outx (omega (arith, e)) in
    let first : List ℕ = slice_set registers (16 * v + ENVX) answer.envx in
    levels_elsewhere (v + 1) answers (slice_set first (16 * v + OUTX) answer.outx) register h
    ∙ get_or-set_other first (16 * v + OUTX) register answer.outx 0 not_outx
    ∙ get_or-set_other registers (16 * v + ENVX) register answer.envx 0 not_envx

-- the results change no other register
pub same_inputs-registers_after : (answers : List VoiceOut) (registers : List ℕ) → SameInputs (registers_after answers registers) registers
unfolding registers_after
same_inputs-registers_after answers registers address h =
    let input : IsInput address = is_input address h in
    get_or-set_other (with_levels_from 0 answers registers) ENDX address (next_endx (slice_index registers ENDX) answers) 0 input.endx
    ∙ levels_elsewhere 0 answers registers address input

-- the poll and the noise leave the registers alone
pub registers-before_voices : (s : ChipState) (k : ℕ) → (before_voices s k).registers ≡ s.registers
unfolding after_poll after_noise
registers-before_voices s k = polled_part (λ s. s.registers) (k % 2 == 0) s (without_bits s.hidden.kon_pending s.hidden.kon_latched) refl

-- and the muted voices
pub muted-before_voices : (s : ChipState) (k : ℕ) → (before_voices s k).muted ≡ s.muted
unfolding after_poll after_noise
muted-before_voices s k = polled_part (λ s. s.muted) (k % 2 == 0) s (without_bits s.hidden.kon_pending s.hidden.kon_latched) refl

-- a sample changes no other register
pub same_inputs-sample : (k : ℕ) (s : ChipState) (memory : List ℕ) → SameInputs (sample k s memory).state.registers s.registers
unfolding sample
same_inputs-sample k s memory address h =
    let now : ChipState = before_voices s k in
    let results = results_from (shared_input now memory k) 0 (pos 0) now.hidden.voices in
    same_inputs-registers_after (map (λ result. result.answer) results) now.registers address h
    ∙ ap (λ (registers : List ℕ). slice_index registers address) (registers-before_voices s k)

-- a register whose place in its row of 16 is no result's is none
pub input_at : (address : ℕ) → address % 16 ≢ 8 → address % 16 ≢ 9 → address % 16 ≢ 12 → is_result address ≡ false
input_at address a b c =
    let not_envx : (address % 0x80 % 16 == ENVX) ≡ false = grind (arith, nat_tests, a) in
    let not_outx : (address % 0x80 % 16 == OUTX) ≡ false = grind (arith, nat_tests, b) in
    let not_endx : (address % 0x80 == ENDX) ≡ false = grind (arith, nat_tests, c) in
    rw (not_envx, not_outx, not_endx) refl
