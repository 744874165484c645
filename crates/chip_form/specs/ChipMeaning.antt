-- What contracts see of a chip: functions on its states. S is the type of the states.
use Rattle.std.specs.Prelude.{ℕ, List, Bool}
use Rattle.chip_form.specs.declared.pages.ReachPages.{ReachPages}
use Rattle.chip_form.specs.Samples.{SampleResult}

pub record ChipMeaning (S : Type 0) : Type 0 where
  -- the register at an address
  pub register_read : S → (address : ℕ) → ℕ
  -- the state after the write of a byte to the register at an address
  pub register_write : S → (address byte : ℕ) → S
  -- whether samples write the register at an address: whether it is a result of theirs
  pub is_result : (address : ℕ) → Bool
  -- the sample of number k over a memory: what it leaves and gives
  pub one_sample : (k : ℕ) → S → (memory : List ℕ) → SampleResult S
  -- the pages that the next 64 samples over a memory can read and write
  pub reach : S → (memory : List ℕ) → ReachPages
  -- the test of the states that a chip can be in
  pub is_valid : S → Bool
