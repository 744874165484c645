-- What samples add to.
use Rattle.std.specs.Prelude.{◌≡◌, ◌+◌, ◌*◌, ◌≤◌, ℕ, List, length}
use Rattle.trace_form.specs.Capacities.{frame_capacity, record_capacity}
use Rattle.chip_form.specs.Samples.{SampleResult, SamplesResult, AddsSample, AddsSamples}
use Rattle.dsp_state.specs.declared.state.ChipState.{ChipState}
use Rattle.dsp_core.specs.declared.dsp.Outputs.{Outputs}

-- there is room for what n more samples add
pub record HasRoomFor (n : ℕ) (outputs : Outputs) : Type 0 where
  pub frames : length outputs.frames.now + n ≤ frame_capacity
  pub records : length outputs.records.now + 8 * n ≤ record_capacity

-- the same lists and the same mask, whatever was added to the lists
pub record AreSame (old new : Outputs) : Type 0 where
  pub mask : new.mask ≡ old.mask
  pub frames : new.frames.ghost_name ≡ old.frames.ghost_name
  pub records : new.records.ghost_name ≡ old.records.ghost_name

-- What is there once these samples are made: the state and the memory that they leave, and in the outputs what they add.
abbrev pub AddsSamplesTo : SamplesResult ChipState → ChipState → (memory : List ℕ) → (old new : Outputs) → Type 0
AddsSamplesTo made state memory old new = AddsSamples old.mask made state memory old.frames.now new.frames.now old.records.now new.records.now

-- and likewise once one sample is made
abbrev pub AddsSampleTo : SampleResult ChipState → ChipState → (memory : List ℕ) → (old new : Outputs) → Type 0
AddsSampleTo made state memory old new = AddsSample old.mask made state memory old.frames.now new.frames.now old.records.now new.records.now
