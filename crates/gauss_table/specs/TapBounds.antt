-- How large four taps are at most, so that their sums fit.
use Rattle.std.specs.Prelude.{◌≤◌, ℕ, ℤ, unsigned_abs}

-- a tap is at most the least weight times the least sample, in 2,048ths
abbrev pub max_tap : ℕ
max_tap = 0x80000

pub record AreSmall (oldest older newer newest : ℤ) : Type 0 where
  pub oldest_bound : unsigned_abs oldest ≤ max_tap
  pub older_bound : unsigned_abs older ≤ max_tap
  pub newer_bound : unsigned_abs newer ≤ max_tap
  pub newest_bound : unsigned_abs newest ≤ max_tap
