-- Voices that samples sample by sample and voices that run one after another give the same.
use Rattle.std.proofs.Common.{◌≡◌, ℕ, zero, suc, ◌+◌, List, [], ◌∷◌, ℤ, map, refl, ◌<◌, ap, arith}
use Rattle.voice_unit.specs.Voice.{VoiceState}
use Rattle.dsp_state.specs.Sample.{SharedInput, VoiceResult, voice_result, results_from}
use Rattle.batch_rows.specs.Lane.{voice_after, lane, outs, voices_after, lanes}

-- before the first sample each voice is as it was
pub voices_after-zero : (shared : ℕ → SharedInput) (v : ℕ) (previous : ℕ → ℤ) (voices : List VoiceState) → voices_after shared v previous voices zero ≡ voices
unfolding voice_after
voices_after-zero shared v previous [] = refl
voices_after-zero shared v previous (voice ∷ voices) =
    ap (λ (rest : List VoiceState). voice ∷ rest) (voices_after-zero shared (v + 1) (outs shared v previous voice) voices)

-- one sample more takes each voice to what its lane makes of it
pub voices_after-suc : (shared : ℕ → SharedInput) (v : ℕ) (previous : ℕ → ℤ) (voices : List VoiceState) (j : ℕ)
    → voices_after shared v previous voices (suc j) ≡ map (λ (result : VoiceResult). result.voice) (lanes shared v previous voices j)
unfolding voice_after lane
voices_after-suc shared v previous [] j = refl
voices_after-suc shared v previous (voice ∷ voices) j =
    ap (λ (rest : List VoiceState). (voice_result (shared j) v (previous j) (voice_after shared v previous voice j)).voice ∷ rest)
    (voices_after-suc shared (v + 1) (outs shared v previous voice) voices j)

-- the voices of a sample, one after another, from where they have come by rows, are the lanes in that sample
pub results_from-lanes : (shared : ℕ → SharedInput) (v : ℕ) (previous : ℕ → ℤ) (voices : List VoiceState) (j : ℕ)
    → results_from (shared j) v (previous j) (voices_after shared v previous voices j) ≡ lanes shared v previous voices j
unfolding lane
results_from-lanes shared v previous [] j = refl
results_from-lanes shared v previous (voice ∷ voices) j =
    ap (λ (rest : List VoiceResult). voice_result (shared j) v (previous j) (voice_after shared v previous voice j) ∷ rest)
    (results_from-lanes shared (v + 1) (outs shared v previous voice) voices j)

-- rows that agree in the samples before give the same voice
voice_after-rows : (shared : ℕ → SharedInput) (others : ℕ → SharedInput) (v : ℕ) (previous other : ℕ → ℤ) (voice : VoiceState) (n : ℕ)
    → ((j : ℕ) → j < n → shared j ≡ others j) → ((j : ℕ) → j < n → previous j ≡ other j)
    → voice_after shared v previous voice n ≡ voice_after others v other voice n
unfolding voice_after voice_result
voice_after-rows shared others v previous other voice zero same before = refl
voice_after-rows shared others v previous other voice (suc n) same before =
    rw (
      voice_after-rows shared others v previous other voice n (λ j below. same j (omega arith)) (λ j below. before j (omega arith)),
      same n (omega arith),
      before n (omega arith),
    ) refl

-- and the same of its lane
lane-rows : (shared : ℕ → SharedInput) (v : ℕ) (previous other : ℕ → ℤ) (voice : VoiceState) (n j : ℕ) → j < n
    → ((j : ℕ) → j < n → previous j ≡ other j) → lane shared v previous voice j ≡ lane shared v other voice j
unfolding lane
lane-rows shared v previous other voice n j few before =
    rw (
      voice_after-rows shared shared v previous other voice j (λ i below. refl) (λ i below. before i (omega (arith, below, few))),
      before j few,
    ) refl

-- the lanes and the voices of a batch depend on the first row of outputs below its length alone
pub lanes-rows : (shared : ℕ → SharedInput) (v : ℕ) (previous other : ℕ → ℤ) (voices : List VoiceState) (n j : ℕ) → j < n
    → ((j : ℕ) → j < n → previous j ≡ other j) → lanes shared v previous voices j ≡ lanes shared v other voices j
lanes-rows shared v previous other [] n j few before = refl
lanes-rows shared v previous other (voice ∷ voices) n j few before =
    rw (lane-rows shared v previous other voice n j few before)
    (ap (λ (rest : List VoiceResult). lane shared v other voice j ∷ rest)
    (lanes-rows shared (v + 1) (outs shared v previous voice) (outs shared v other voice) voices n j few
    (λ i below. ap (λ (one : VoiceResult). one.answer.out) (lane-rows shared v previous other voice n i below before))))

pub voices_after-rows : (shared : ℕ → SharedInput) (v : ℕ) (previous other : ℕ → ℤ) (voices : List VoiceState) (n : ℕ)
    → ((j : ℕ) → j < n → previous j ≡ other j) → voices_after shared v previous voices n ≡ voices_after shared v other voices n
voices_after-rows shared v previous other [] n before = refl
voices_after-rows shared v previous other (voice ∷ voices) n before =
    rw (voice_after-rows shared shared v previous other voice n (λ i below. refl) before)
    (ap (λ (rest : List VoiceState). voice_after shared v other voice n ∷ rest)
    (voices_after-rows shared (v + 1) (outs shared v previous voice) (outs shared v other voice) voices n
    (λ i below. ap (λ (one : VoiceResult). one.answer.out) (lane-rows shared v previous other voice n i below before))))
