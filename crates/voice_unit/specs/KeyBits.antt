-- The key-ons of all samples of a batch in one byte.
use Rattle.std.specs.Prelude.{ℕ, ◌<◌, ◌≤◌, List, slice_index}
use Rattle.std.specs.Int.{bit_at}
use Rattle.num_fix.specs.declared.TheConstants.{BATCH_SIZE}

-- a byte has the bits of each byte of a row, one for each sample, and so none of them is greater
pub record HasBitsOf (row : List ℕ) (byte : ℕ) : Type 0 where
  pub bits : (j i : ℕ) → j < BATCH_SIZE → bit_at (slice_index row j) i ≤ bit_at byte i
  pub most : (j : ℕ) → j < BATCH_SIZE → slice_index row j ≤ byte
