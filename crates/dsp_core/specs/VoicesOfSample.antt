-- The voices of a sample, by the settings that the chip has read.
use Rattle.std.specs.Prelude.{◌≡◌, ℕ, List, pos, map}
use Rattle.voice_unit.specs.Voice.{VoiceState}
use Rattle.voice_unit.specs.declared.interface.VoiceOut.{VoiceOut}
use Rattle.dsp_state.specs.Settings.{settings_of}
use Rattle.dsp_state.specs.Sample.{SharedInput, results_from}
use Rattle.dsp_core.specs.declared.voices.SampleReads.{SampleReads}

-- a fact of what the voices read, whichever registers the settings were read of
abbrev pub ForInput : SampleReads → (SharedInput → Type 0) → Type 0
ForInput reads P =
    (registers : List ℕ) (muted : ℕ) → reads.settings.now ≡ settings_of registers muted
    → P record { registers = registers; common = reads.common; memory = reads.memory.now; table = reads.table.now; counter = reads.clock }

-- all voices after their step, and their answers
abbrev pub voices_after_step : SharedInput → List VoiceState → List VoiceState
voices_after_step shared voices = map (λ one. one.voice) (results_from shared 0 (pos 0) voices)

abbrev pub answers_of : SharedInput → List VoiceState → List VoiceOut
answers_of shared voices = map (λ one. one.answer) (results_from shared 0 (pos 0) voices)
