-- Cells in line, and the bytes that they miss.
use Rattle.std.proofs.Common.{◌≡◌, ℕ, zero, suc, ◌+◌, ◌*◌, ◌/◌, ◌%◌, ◌<◌, ◌≤◌, List, Bool, true, false, slice_index, if◌then◌else◌, ◌⊎◌, inl, inr, ap, ◌∙◌, arith}
use Rattle.std.proofs.lemmas.Bool.{cases_lt}
use Rattle.aram_core.specs.Memory.{byte_at}
use Rattle.brr_decode.specs.Header.{has_end}
use Rattle.voice_unit.specs.Voice.{VoiceState}
use Rattle.echo_unit.specs.Echo.{cell_address}
use Rattle.echo_unit.specs.Cells.{StandInLine, after_cells}
use Rattle.reach_map.specs.Reach.{chain_entry}
use Rattle.reach_map.specs.declared.ChainStart.{ChainStart}
use Rattle.reach_map.proofs.ChainEntries.{chain_entry-zero, chain_entry-suc}
use Rattle.dsp_state.specs.Reach.{voice_entry, own_chain, start_chain}
use Rattle.dsp_state.specs.Registers.{echo_regs}
use Rattle.dsp_state.specs.declared.registers.TheConstants.{ESA, EDL}
use Rattle.dsp_state.specs.declared.state.ChipState.{ChipState}
use Rattle.reach_laws.specs.CellsMiss.{CellsMiss, CellsMissChain, CellsMissVoice}
use Rattle.reach_laws.proofs.ByBytes.{AreCells}
use Rattle.batch_rows.specs.CellLine.{line_from}

-- The cells up to a few bytes miss them, where the line begins behind their last: `behind` is the way from the bytes to the line, `ahead` that from the line to them.
pub line_misses : (first start count cells behind ahead : ℕ) → first < 0x10000 → start < 0x10000 → behind < 0x10000 → ahead < 0x10000
    → (behind + start) % 0x10000 ≡ first → (ahead + first) % 0x10000 ≡ start → count ≤ behind → cells ≤ ahead / 4 → CellsMiss (line_from first) cells start count
line_misses first start count cells behind ahead small small' small'' small''' back on far near j k i below few inside e =
    omega (arith, e, small, small', small'', small''', back, on, far, near, below, few, inside)

-- fewer cells miss what more of them do
pub fewer_cells : (cell : ℕ → ℕ) (few many start count : ℕ) → few ≤ many → CellsMiss cell many start count → CellsMiss cell few start count
fewer_cells cell few many start count less miss j k i below = miss j k i (omega (arith, below, less))

pub fewer_of_chain : (cell : ℕ → ℕ) (memory : List ℕ) (few many : ℕ) (chain : ChainStart) → few ≤ many → CellsMissChain cell memory many chain → CellsMissChain cell memory few chain
fewer_of_chain cell memory few many chain less miss i pace = fewer_cells cell few many (chain_entry memory chain i) 9 less (miss i (omega (arith, pace, less)))

pub fewer_of_voice : (cell : ℕ → ℕ) (s : ChipState) (memory : List ℕ) (few many v : ℕ) (voice : VoiceState) → few ≤ many
    → CellsMissVoice cell s memory many v voice → CellsMissVoice cell s memory few v voice
fewer_of_voice cell s memory few many v voice less miss = record {
  entry = fewer_cells cell few many (voice_entry s.registers v) 4 less miss.entry;
  own = fewer_of_chain cell memory few many (own_chain s memory v voice) less miss.own;
  start = λ starts. fewer_of_chain cell memory few many (start_chain s memory v) less (miss.start starts);
}

-- one block more of a chain, where no more cells are left than come before it, unless the voice comes to it later
pub one_block_more : (cell : ℕ → ℕ) (memory : List ℕ) (chain : ChainStart) (i left before next : ℕ)
    → ((k : ℕ) → k < i → 4 * k ≤ left + 2 → CellsMiss cell left (chain_entry memory chain k) 9)
    → CellsMiss cell before (chain_entry memory chain i) 9 → next ≤ left → (4 * i ≤ next + 2 → next ≤ before)
    → (k : ℕ) → k < i + 1 → 4 * k ≤ next + 2 → CellsMiss cell next (chain_entry memory chain k) 9
one_block_more cell memory chain i left before next others here less short k below pace = elim (cases_lt k i) [
  | inl earlier ↦ fewer_cells cell next left (chain_entry memory chain k) 9 less (others k earlier (omega (arith, pace, less)))
  | inr not_earlier ↦
      let this : k ≡ i = omega (arith, below, not_earlier) in
      rw this (fewer_cells cell next before (chain_entry memory chain i) 9 (short (omega (arith, pace, this))) here)
]

-- cells in line from that of the echo on are its next cells
pub line_is : (s : ChipState) (first n cells : ℕ) → first ≡ cell_address (slice_index s.registers ESA) s.hidden.echo.offset → StandInLine (slice_index s.registers EDL) cells s.hidden.echo
    → n ≤ cells → AreCells (line_from first) s n
unfolding echo_regs
line_is s first n cells is line few j below =
    let at : (after_cells s.hidden.echo (slice_index s.registers EDL) j).offset ≡ s.hidden.echo.offset + 4 * j = line j (omega (arith, below, few)) in
    rw at (omega (arith, is))

-- a block of a chain stands so many blocks on from its start or from its loop word, and no more than the chain has come to
record IsNear (chain : ChainStart) (i at : ℕ) : Type 0 where
  blocks : ℕ
  within : blocks ≤ i
  stands : (at % 0x10000 ≡ (chain.block + 9 * blocks) % 0x10000) ⊎ (at % 0x10000 ≡ (chain.loop_word + 9 * blocks) % 0x10000)

near_entry : (memory : List ℕ) (chain : ChainStart) (i : ℕ) → IsNear chain i (chain_entry memory chain i)
near_entry memory chain zero = record {
  blocks = 0;
  within = omega arith;
  stands = inl (ap (λ (b : ℕ). b % 0x10000) (chain_entry-zero memory chain) ∙ omega arith);
}
near_entry memory chain (suc i) = rw (chain_entry-suc memory chain i) (by (has_end (byte_at memory (chain_entry memory chain i))) (near_entry memory chain i))
  where
    by : (b : Bool) → IsNear chain i (chain_entry memory chain i) → IsNear chain (suc i) (if b then chain.loop_word else (chain_entry memory chain i + 9) % 0x10000)
    by true last = record { blocks = 0; within = omega arith; stands = inr (omega arith) }
    by false last = elim last.stands [
      | inl at ↦ record { blocks = suc last.blocks; within = omega (arith, last.within); stands = inl (omega (arith, at)) }
      | inr at ↦ record { blocks = suc last.blocks; within = omega (arith, last.within); stands = inr (omega (arith, at)) }
    ]

-- cells that miss the 162 bytes from both on miss the chain
pub chain_is_missed : (cell : ℕ → ℕ) (memory : List ℕ) (n : ℕ) (chain : ChainStart) → n ≤ 64 → CellsMiss cell n chain.block 162 → CellsMiss cell n chain.loop_word 162
    → CellsMissChain cell memory n chain
chain_is_missed cell memory n chain few first again i pace j k o below small inside same =
    let last = near_entry memory chain i in
    elim last.stands [
      | inl at ↦ first j k (9 * last.blocks + o) below small (omega (arith, last.within, pace, few, inside)) (same ∙ omega (arith, at))
      | inr at ↦ again j k (9 * last.blocks + o) below small (omega (arith, last.within, pace, few, inside)) (same ∙ omega (arith, at))
    ]
