-- A sample keeps the number of voices.
use Rattle.std.proofs.Common.{◌≡◌, ℕ, suc, ◌+◌, ◌%◌, List, [], ◌∷◌, ℤ, pos, Bool, true, false, ◌==◌, length, map, if◌then◌else◌, refl, ap, ◌∙◌}
use Rattle.voice_unit.specs.Voice.{VoiceState}
use Rattle.dsp_state.specs.Results.{without_bits}
use Rattle.dsp_state.specs.Sample.{SharedInput, VoiceResult, voice_result, results_from, shared_input, after_poll, after_noise, before_voices, sample}
use Rattle.dsp_state.specs.declared.state.ChipState.{ChipState}

-- each voice has one result
pub length-results_from : (shared : SharedInput) (v : ℕ) (previous : ℤ) (voices : List VoiceState) → length (results_from shared v previous voices) ≡ length voices
length-results_from shared v previous [] = refl
length-results_from shared v previous (voice ∷ voices) = ap suc (length-results_from shared (v + 1) (voice_result shared v previous voice).answer.out voices)

length-map : (results : List VoiceResult) → length (map (λ (one : VoiceResult). one.voice) results) ≡ length results
length-map [] = refl
length-map (one ∷ results) = ap suc (length-map results)

-- the poll leaves a part of the state alone that has neither pending nor latched key-ons
pub polled_part : {X : Type 0} (part : ChipState → X) (b : Bool) (s : ChipState) (kon_pending : ℕ)
    → part (record s { hidden = record s.hidden { kon_pending = kon_pending; kon_latched = kon_pending } }) ≡ part s
    → part (if b then record s { hidden = record s.hidden { kon_pending = kon_pending; kon_latched = kon_pending } } else s) ≡ part s
polled_part part true s kon_pending same = same
polled_part part false s kon_pending same = refl

-- the poll and the noise leave the voices alone
pub voices-before_voices : (s : ChipState) (k : ℕ) → (before_voices s k).hidden.voices ≡ s.hidden.voices
unfolding after_poll after_noise
voices-before_voices s k = polled_part (λ s. s.hidden.voices) (k % 2 == 0) s (without_bits s.hidden.kon_pending s.hidden.kon_latched) refl

pub length-voices-sample : (k : ℕ) (s : ChipState) (memory : List ℕ) → length (sample k s memory).state.hidden.voices ≡ length s.hidden.voices
unfolding sample
length-voices-sample k s memory =
    let now : ChipState = before_voices s k in
    let results : List VoiceResult = results_from (shared_input now memory k) 0 (pos 0) now.hidden.voices in
    length-map results ∙ length-results_from (shared_input now memory k) 0 (pos 0) now.hidden.voices ∙ ap (λ (voices : List VoiceState). length voices) (voices-before_voices s k)
