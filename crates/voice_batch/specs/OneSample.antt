-- One sample of a voice.
use Rattle.std.specs.Prelude.{◌≡◌, ℕ, List, ℤ}
use Rattle.voice_unit.specs.Voice.{VoiceState, voice_step, voice_answer}
use Rattle.voice_unit.specs.declared.interface.VoiceRegs.{VoiceRegs}
use Rattle.voice_unit.specs.declared.interface.VoiceIn.{VoiceIn}
use Rattle.voice_unit.specs.declared.interface.VoiceOut.{VoiceOut}

-- a step of a voice at a counter: the next voice, and what the step gives
pub record IsStep (r : VoiceRegs) (i : VoiceIn) (memory : List ℕ) (table : List ℤ) (counter : ℕ)
    (before : VoiceState) (answer : VoiceOut) (after : VoiceState) : Type 0 where
  pub voice : after ≡ voice_step before r i memory counter
  pub answer_is : answer ≡ voice_answer before r i memory table counter
