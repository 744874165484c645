-- What is there once samples are made whose records aren't wanted.
use Rattle.std.specs.Prelude.{◌≡◌, ℕ, List, ◌++◌}
use Rattle.num_fix.specs.declared.Frame.{Frame}
use Rattle.chip_form.specs.Samples.{SamplesResult}
use Rattle.dsp_state.specs.declared.state.ChipState.{ChipState}

-- the state and the memory that they leave, and after what a list had before, their frames
pub record AddsFrames (made : SamplesResult ChipState) (state : ChipState) (memory : List ℕ) (old_frames new_frames : List Frame) : Type 0 where
  pub state_made : state ≡ made.state
  pub memory_made : memory ≡ made.memory
  pub frames_made : new_frames ≡ old_frames ++ made.frames
