-- What is there once one sample is made with the answers of its voices.
use Rattle.std.specs.Prelude.{◌≡◌, ℕ, List}
use Rattle.num_fix.specs.declared.Frame.{Frame}
use Rattle.chip_form.specs.Samples.{SampleResult}
use Rattle.voice_unit.specs.declared.interface.VoiceOut.{VoiceOut}
use Rattle.dsp_state.specs.Sample.{records_from}
use Rattle.dsp_state.specs.declared.state.ChipState.{ChipState}

-- the state, the memory and the frame are those of the sample, and the answers give its records
pub record IsMade (made : SampleResult ChipState) (number : ℕ) (state : ChipState) (memory : List ℕ) (frame : Frame) (answers : List VoiceOut) : Type 0 where
  pub state_made : state ≡ made.state
  pub memory_made : memory ≡ made.memory
  pub frame_made : frame ≡ made.frame
  pub records_made : records_from number 0 answers ≡ made.records
