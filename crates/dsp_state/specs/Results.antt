-- What a sample leaves in the registers: ENVX and OUTX of each voice, and ENDX.
use Rattle.std.specs.Prelude.{ℕ, ◌+◌, ◌-◌, ◌*◌, ◌%◌, ◌^◌, ◌==◌, ◌||◌, List, [], ◌∷◌, Bool, slice_index, slice_set, bit_and, bit_or, if◌then◌else◌}
use Rattle.voice_unit.specs.declared.interface.VoiceOut.{VoiceOut}
use Rattle.dsp_state.specs.declared.registers.TheConstants.{ENVX, OUTX, ENDX}

-- the registers that samples write, by their addresses modulo 128
abbrev pub is_result : (address : ℕ) → Bool
is_result address =
    let register = address % 0x80 in
    register % 16 == ENVX || register % 16 == OUTX || register == ENDX

-- the bits of the voices from v on whose answers pass a test
abbrev pub bits_from : (test : VoiceOut → Bool) → (v : ℕ) → List VoiceOut → ℕ
bits_from test v [] = 0
bits_from test v (answer ∷ answers) = (if test answer then 2 ^ v else 0) + bits_from test (v + 1) answers

-- a byte without the bits of another
abbrev pub without_bits : (byte bits : ℕ) → ℕ
without_bits byte bits = bit_and byte (0xff - bits)

-- ENDX gains the voices that ended and then loses those that were keyed
unfoldable pub next_endx : (endx : ℕ) → List VoiceOut → ℕ
next_endx endx answers =
    without_bits (bit_or endx (bits_from (λ answer. answer.ended) 0 answers)) (bits_from (λ answer. answer.keyed) 0 answers)

-- the registers with ENVX and OUTX of the voices from v on
abbrev pub with_levels_from : (v : ℕ) → List VoiceOut → (registers : List ℕ) → List ℕ
with_levels_from v [] registers = registers
with_levels_from v (answer ∷ answers) registers =
    with_levels_from (v + 1) answers (slice_set (slice_set registers (16 * v + ENVX) answer.envx) (16 * v + OUTX) answer.outx)

-- the registers after a sample
unfoldable pub registers_after : List VoiceOut → (registers : List ℕ) → List ℕ
registers_after answers registers =
    slice_set (with_levels_from 0 answers registers) ENDX (next_endx (slice_index registers ENDX) answers)
