-- What a batch does once: the results of its samples in the registers.
use Rattle.std.specs.Prelude.{◌≡◌, ◌<◌, ℕ, zero, suc, List, false, get_or, slice_index, slice_set, if◌then◌else◌}
use Rattle.voice_unit.specs.declared.all_voices.BatchRows.{BatchRows}
use Rattle.voice_unit.specs.declared.interface.VoiceOut.{VoiceOut}
use Rattle.dsp_state.specs.Results.{bits_from, with_levels_from, next_endx}
use Rattle.dsp_state.specs.declared.registers.TheConstants.{ENDX}

-- ENDX after so many samples
abbrev pub endx_after : (rows : ℕ → List VoiceOut) → (endx samples : ℕ) → ℕ
endx_after rows endx zero = endx
endx_after rows endx (suc j) = next_endx (endx_after rows endx j) (rows j)

-- the registers with ENVX and OUTX of one sample, and a byte in ENDX
abbrev pub put_once : List VoiceOut → (endx : ℕ) → (registers : List ℕ) → List ℕ
put_once answers endx registers = slice_set (with_levels_from 0 answers registers) ENDX endx

-- the bytes of the voices that come to an end and of those that are keyed, in each of n samples with these answers
pub record AreBits (n : ℕ) (answers : ℕ → List VoiceOut) (rows : BatchRows) (ends : List ℕ) : Type 0 where
  pub ended : (j : ℕ) → j < n → slice_index ends j ≡ bits_from (λ answer. answer.ended) 0 (answers j)
  pub keyed : (j : ℕ) → j < n → (if get_or rows.poll j false then slice_index rows.kon j else 0) ≡ bits_from (λ answer. answer.keyed) 0 (answers j)
