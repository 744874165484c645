-- What contracts see of what a chip saves: functions on its states. S is the type of the states, V of what is saved of one.
use Rattle.std.specs.Prelude.{ℕ}

pub record ChipSaving (S V : Type 0) : Type 0 where
  -- what is saved of a state before the sample of number k
  pub saved : S → (k : ℕ) → V
  -- a state once what was saved is loaded into it
  pub loaded : S → V → S
  -- the number of the next sample of what was saved
  pub number : V → ℕ
