-- A voice's step reads its directory entry, its header and the two bytes of its next group, and nothing else of the memory.
use Rattle.std.proofs.Common.{◌≡◌, ℕ, ◌+◌, List, ℤ, ap, refl}
use Rattle.aram_core.specs.Memory.{byte_at}
use Rattle.voice_unit.specs.declared.interface.VoiceRegs.{VoiceRegs}
use Rattle.voice_unit.specs.declared.interface.VoiceIn.{VoiceIn}
use Rattle.voice_unit.specs.Directory.{start_word, loop_word}
use Rattle.voice_unit.specs.Voice.{VoiceState, step_header, playing_voice, after_decoding, after_reading, after_envelope, after_pitch, step_pitch, voice_step, voice_answer}
use Rattle.dsp_state.specs.Registers.{voice_regs}
use Rattle.dsp_state.specs.Sample.{SharedInput, voice_in, voice_result}

-- two memories that agree where a voice looks in a step
pub record AgreeFor (v : VoiceState) (r : VoiceRegs) (i : VoiceIn) (m n : List ℕ) : Type 0 where
  pub start : start_word i.dir r.srcn m ≡ start_word i.dir r.srcn n
  pub loop : loop_word i.dir r.srcn m ≡ loop_word i.dir r.srcn n
  pub header : step_header v m ≡ step_header v n
  pub low : byte_at m ((playing_voice v r i n).block + (playing_voice v r i n).offset) ≡ byte_at n ((playing_voice v r i n).block + (playing_voice v r i n).offset)
  pub high : byte_at m ((playing_voice v r i n).block + (playing_voice v r i n).offset + 1) ≡ byte_at n ((playing_voice v r i n).block + (playing_voice v r i n).offset + 1)

after_reading_same : (v : VoiceState) (m n : List ℕ) (header to : ℕ) → byte_at m (v.block + v.offset) ≡ byte_at n (v.block + v.offset)
    → byte_at m (v.block + v.offset + 1) ≡ byte_at n (v.block + v.offset + 1) → after_reading v m header to ≡ after_reading v n header to
unfolding after_reading after_decoding
after_reading_same v m n header to low high = rw (low, high)

pub voice_step_same : (v : VoiceState) (r : VoiceRegs) (i : VoiceIn) (m n : List ℕ) (counter : ℕ) → AgreeFor v r i m n → voice_step v r i m counter ≡ voice_step v r i n counter
unfolding voice_step after_envelope
voice_step_same v r i m n counter h =
    rw (h.start, h.loop, h.header) (ap (λ (w : VoiceState). after_pitch w (step_pitch v r i))
    (after_reading_same (after_envelope (playing_voice v r i n) r i (step_header v n) counter) m n (step_header v n) (loop_word i.dir r.srcn n) h.low h.high))

pub voice_answer_same : (v : VoiceState) (r : VoiceRegs) (i : VoiceIn) (m n : List ℕ) (table : List ℤ) (counter : ℕ) → AgreeFor v r i m n
    → voice_answer v r i m table counter ≡ voice_answer v r i n table counter
unfolding voice_answer
voice_answer_same v r i m n table counter h = rw (voice_step_same v r i m n counter h, h.start, h.header)

-- what a voice becomes and gives
pub voice_result_same : (shared : SharedInput) (m : List ℕ) (v : ℕ) (previous : ℤ) (voice : VoiceState)
    → AgreeFor voice (voice_regs shared.registers v) (voice_in shared.registers shared.common v previous) m shared.memory
    → voice_result (record shared { memory = m }) v previous voice ≡ voice_result shared v previous voice
unfolding voice_result
voice_result_same shared m v previous voice h =
    let r : VoiceRegs = voice_regs shared.registers v in
    let i : VoiceIn = voice_in shared.registers shared.common v previous in
    rw (voice_step_same voice r i m shared.memory shared.counter h, voice_answer_same voice r i m shared.memory shared.table shared.counter h) refl
