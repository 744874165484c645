-- Where a voice can have come after some samples.
use Rattle.std.specs.Prelude.{◌≡◌, ℕ, ◌+◌, ◌-◌, ◌*◌, ◌/◌, ◌≤◌, ◌≢◌, List, [], ◌∷◌, true, false, ◌⊎◌}
use Rattle.voice_unit.specs.Voice.{VoiceState, is_at_group}
use Rattle.reach_map.specs.Reach.{chain_entry}
use Rattle.reach_map.specs.declared.ChainStart.{ChainStart}
use Rattle.dsp_state.specs.declared.state.ChipState.{ChipState}
use Rattle.chip_form.specs.Limits.{max_samples_of_batch}
use Rattle.dsp_state.specs.Reach.{can_start, own_chain, start_chain, chip_reach}
use Rattle.dsp_state.specs.Sample.{sample}
use Rattle.chip_form.specs.Samples.{samples}
use Rattle.dsp_state.specs.Valid.{is_valid}

-- After j samples a voice is at a group of one of the blocks of a chain, and has read no more groups than samples were made
-- since it stood in the first of them.
pub record IsOnChain (memory : List ℕ) (start : ChainStart) (j : ℕ) (voice : VoiceState) : Type 0 where
  pub index : ℕ
  pub block : voice.block ≡ chain_entry memory start index
  pub group : is_at_group voice ≡ true
  pub pace : 4 * index + (voice.offset - 1) / 2 ≤ j + 3

-- Voice v, which was `old` over the state s and this memory when the reach was taken, is on one of its chains after j samples:
-- on its own, or on that of the start of its sample, where it could start. Only such a voice has a key-on delay.
pub record StaysOnChains (s : ChipState) (memory : List ℕ) (j v : ℕ) (old new : VoiceState) : Type 0 where
  pub on : IsOnChain memory (own_chain s memory v old) j new ⊎ ((can_start s v old ≡ true) × IsOnChain memory (start_chain s memory v) j new)
  pub waits : new.delay ≢ 0 → can_start s v old ≡ true

-- the same of all voices from v on
abbrev pub AllStayOnChains : ChipState → List ℕ → (j v : ℕ) → (olds news : List VoiceState) → Type 0
AllStayOnChains s memory j v [] [] = Unit {0}
AllStayOnChains s memory j v (old ∷ olds) (new ∷ news) = StaysOnChains s memory j v old new × AllStayOnChains s memory j (v + 1) olds news
AllStayOnChains s memory j v [] (new ∷ news) = ⊥
AllStayOnChains s memory j v (old ∷ olds) [] = ⊥

-- from a valid state whose echo can't write what its voices read, each voice stays on its chains over the samples of a batch
abbrev pub VoicesStayOnChains : Type 0
VoicesStayOnChains =
    (j k : ℕ) (s : ChipState) (memory : List ℕ) → j ≤ max_samples_of_batch → is_valid s ≡ true → (chip_reach s memory).entangled ≡ false
    → AllStayOnChains s memory j 0 s.hidden.voices (samples sample j k s memory).state.hidden.voices
