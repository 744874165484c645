-- What contracts see of a chip.
use Rattle.std.specs.Prelude.{ℕ}
use Rattle.dsp_state.specs.declared.state.ChipState.{ChipState}

-- a chip: its state, the number of the next sample, and how many batches and samples it made in all, those before a load too
pub record DspView : Type 0 where
  pub state : ChipState
  pub sample : ℕ
  pub batches : ℕ
  pub total : ℕ
