-- What each chip keeps that is saved. A state is a fixed part, which no write, no sample and no load changes, and what is saved of it.
use Rattle.std.specs.Prelude.{◌≡◌, ℕ, List}
use Rattle.chip_form.specs.ChipMeaning.{ChipMeaning}
use Rattle.chip_form.specs.ChipSaving.{ChipSaving}

pub record IsLawfulSaving {S V : Type 0} (chip : ChipMeaning S) (saving : ChipSaving S V) : Type 0 where
  -- what was saved of a state brings it back, with its sample's number
  pub loads_back : (s : S) (k : ℕ) → saving.loaded s (saving.saved s k) ≡ s
  pub number_saved : (s : S) (k : ℕ) → saving.number (saving.saved s k) ≡ k
  -- a load leaves nothing of what was there but the fixed part
  pub loads_over : (s : S) (v w : V) → saving.loaded (saving.loaded s v) w ≡ saving.loaded s w
  pub write_keeps_fixed : (s : S) (address byte : ℕ) (v : V) → saving.loaded (chip.register_write s address byte) v ≡ saving.loaded s v
  pub sample_keeps_fixed : (k : ℕ) (s : S) (memory : List ℕ) (v : V) → saving.loaded (chip.one_sample k s memory).state v ≡ saving.loaded s v
