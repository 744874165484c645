-- That the cells which the echo writes have no byte that a voice can read meanwhile. The cells are a row of addresses.
use Rattle.std.specs.Prelude.{◌≡◌, ◌≢◌, ℕ, ◌+◌, ◌*◌, ◌%◌, ◌<◌, ◌≤◌, List, [], ◌∷◌, true}
use Rattle.aram_core.specs.declared.aram.TheConstants.{MEMORY_SIZE}
use Rattle.voice_unit.specs.Voice.{VoiceState}
use Rattle.reach_map.specs.Reach.{chain_entry}
use Rattle.reach_map.specs.declared.ChainStart.{ChainStart}
use Rattle.echo_unit.specs.Cells.{cell_after}
use Rattle.chip_form.specs.Limits.{max_samples_of_batch}
use Rattle.chip_form.specs.Samples.{samples}
use Rattle.dsp_state.specs.Reach.{voice_entry, can_start, own_chain, start_chain}
use Rattle.dsp_state.specs.Registers.{echo_regs}
use Rattle.dsp_state.specs.Sample.{sample}
use Rattle.dsp_state.specs.Valid.{is_valid}
use Rattle.dsp_state.specs.declared.state.ChipState.{ChipState}
use Rattle.reach_laws.specs.Chain.{AllStayOnChains}

-- the first n cells have none of so many bytes from an address on
abbrev pub CellsMiss : (cell : ℕ → ℕ) → (n start count : ℕ) → Type 0
CellsMiss cell n start count = (j k i : ℕ) → j < n → k < 4 → i < count → (cell j + k) % MEMORY_SIZE ≢ (start + i) % MEMORY_SIZE

-- nor one of the blocks of a chain to which a voice can come in n samples: it reads at most a group in each, and four are a block
abbrev pub CellsMissChain : (cell : ℕ → ℕ) → (memory : List ℕ) → (n : ℕ) → ChainStart → Type 0
CellsMissChain cell memory n start = (i : ℕ) → 4 * i ≤ n + 2 → CellsMiss cell n (chain_entry memory start i) 9

-- nor one that voice v can read: of its entry of the directory, of its own chain, or of that of the start of its sample
pub record CellsMissVoice (cell : ℕ → ℕ) (s : ChipState) (memory : List ℕ) (n v : ℕ) (voice : VoiceState) : Type 0 where
  pub entry : CellsMiss cell n (voice_entry s.registers v) 4
  pub own : CellsMissChain cell memory n (own_chain s memory v voice)
  pub start : can_start s v voice ≡ true → CellsMissChain cell memory n (start_chain s memory v)

-- nor one that a voice from v on can read
abbrev pub CellsMissVoices : (cell : ℕ → ℕ) → ChipState → (memory : List ℕ) → (n v : ℕ) → List VoiceState → Type 0
CellsMissVoices cell s memory n v [] = Unit {0}
CellsMissVoices cell s memory n v (voice ∷ voices) = CellsMissVoice cell s memory n v voice × CellsMissVoices cell s memory n (v + 1) voices

-- from a valid state whose next n cells have no byte that a voice can read in n samples, each voice stays on its chains over them
abbrev pub VoicesStayByBytes : Type 0
VoicesStayByBytes =
    (n j k : ℕ) (s : ChipState) (memory : List ℕ) → j ≤ n → n ≤ max_samples_of_batch → is_valid s ≡ true
    → CellsMissVoices (cell_after s.hidden.echo (echo_regs s.registers)) s memory n 0 s.hidden.voices
    → AllStayOnChains s memory j 0 s.hidden.voices (samples sample j k s memory).state.hidden.voices
