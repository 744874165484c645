-- What muted voices still do, and what is left when all are muted.
use Rattle.std.specs.Prelude.{◌≡◌, ℕ, List, map, replicate, slice_index}
use Rattle.std.specs.List.{range_with_len}
use Rattle.echo_unit.specs.Echo.{silent_frame}
use Rattle.chip_form.specs.Samples.{samples}
use Rattle.dsp_state.specs.Sample.{sample}
use Rattle.dsp_state.specs.Volumes.{voice_volumes, all_volumes}
use Rattle.dsp_state.specs.Outside.{register_write}
use Rattle.dsp_state.specs.declared.registers.TheConstants.{EVOLL, EVOLR}
use Rattle.dsp_state.specs.declared.state.ChipState.{ChipState}

-- without muted voices each voice is heard at its own volumes
abbrev pub AllAreHeard : Type 0
AllAreHeard = (registers : List ℕ) → all_volumes registers 0 ≡ map (λ v. voice_volumes registers v) (range_with_len 0 8)

-- a chip with other voices muted
abbrev pub with_muted : ChipState → (muted : ℕ) → ChipState
with_muted s muted = record s { muted = muted }

-- a sample of a chip with other voices muted leaves and gives the same, but for its frame and for what the echo writes
abbrev pub MutedVoicesGoOn : Type 0
MutedVoicesGoOn =
    (k : ℕ) (s : ChipState) (muted : ℕ) (memory : List ℕ)
    → ((sample k (with_muted s muted) memory).state ≡ with_muted (sample k s memory).state muted)
    × ((sample k (with_muted s muted) memory).records ≡ (sample k s memory).records)

-- a write of a register does the same to both, and mutes no voice
abbrev pub WritesLeaveMuted : Type 0
WritesLeaveMuted =
    (s : ChipState) (muted address byte : ℕ) → register_write (with_muted s muted) address byte ≡ with_muted (register_write s address byte) muted

-- with all voices muted and the echo's volumes 0, frames are silent
abbrev pub AllMutedIsSilent : Type 0
AllMutedIsSilent =
    (n k : ℕ) (s : ChipState) (memory : List ℕ)
    → s.muted ≡ 0xff → slice_index s.registers EVOLL ≡ 0 → slice_index s.registers EVOLR ≡ 0
    → (samples sample n k s memory).frames ≡ replicate n silent_frame
