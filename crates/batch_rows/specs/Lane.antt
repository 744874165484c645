-- One voice over a batch, and all voices, each over the row of outputs of the one before. A row is a function of the
-- sample's place in the batch, from 0 on.
use Rattle.std.specs.Prelude.{ℕ, zero, suc, ◌+◌, List, [], ◌∷◌, ℤ}
use Rattle.voice_unit.specs.Voice.{VoiceState}
use Rattle.dsp_state.specs.Sample.{SharedInput, VoiceResult, voice_result}

-- voice v after so many samples of a batch: the row of what all voices read, and the row of the outputs of the voice before
unfoldable pub voice_after : (shared : ℕ → SharedInput) → (v : ℕ) → (previous : ℕ → ℤ) → VoiceState → (samples : ℕ) → VoiceState
voice_after shared v previous voice zero = voice
voice_after shared v previous voice (suc j) = (voice_result (shared j) v (previous j) (voice_after shared v previous voice j)).voice

-- what voice v becomes and gives in sample j
unfoldable pub lane : (shared : ℕ → SharedInput) → (v : ℕ) → (previous : ℕ → ℤ) → VoiceState → (j : ℕ) → VoiceResult
lane shared v previous voice j = voice_result (shared j) v (previous j) (voice_after shared v previous voice j)

-- the row of its outputs, which the next voice may take for its pitch
abbrev pub outs : (shared : ℕ → SharedInput) → (v : ℕ) → (previous : ℕ → ℤ) → VoiceState → (j : ℕ) → ℤ
outs shared v previous voice j = (lane shared v previous voice j).answer.out

-- the voices from v on after so many samples, each made over the whole batch before the next
abbrev pub voices_after : (shared : ℕ → SharedInput) → (v : ℕ) → (previous : ℕ → ℤ) → List VoiceState → (samples : ℕ) → List VoiceState
voices_after shared v previous [] n = []
voices_after shared v previous (voice ∷ voices) n =
    voice_after shared v previous voice n ∷ voices_after shared (v + 1) (outs shared v previous voice) voices n

-- what they become and give in sample j
abbrev pub lanes : (shared : ℕ → SharedInput) → (v : ℕ) → (previous : ℕ → ℤ) → List VoiceState → (j : ℕ) → List VoiceResult
lanes shared v previous [] j = []
lanes shared v previous (voice ∷ voices) j =
    lane shared v previous voice j ∷ lanes shared (v + 1) (outs shared v previous voice) voices j
