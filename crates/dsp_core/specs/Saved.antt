-- What is saved of a chip, and put back: all but its table.
use Rattle.std.specs.Prelude.{ℕ, List}
use Rattle.dsp_state.specs.declared.state.Hidden.{Hidden}
use Rattle.dsp_state.specs.declared.state.ChipState.{ChipState}

pub record SavedDsp : Type 0 where
  pub registers : List ℕ
  pub hidden : Hidden
  pub muted : ℕ
  -- the number of the next sample
  pub sample : ℕ

-- what is saved of a state before the sample of number k
abbrev pub saved_state : ChipState → (k : ℕ) → SavedDsp
saved_state s k = record { registers = s.registers; hidden = s.hidden; muted = s.muted; sample = k }

-- a state with what was saved in it; its table stays
abbrev pub loaded_state : ChipState → SavedDsp → ChipState
loaded_state s saved = record s { registers = saved.registers; hidden = saved.hidden; muted = saved.muted }
