-- The limits that several clauses need.
use Rattle.std.specs.Prelude.{ℕ}
use Rattle.num_fix.specs.Limits.{max_sample_number}
use Rattle.num_fix.specs.declared.TheConstants.{BATCH_SIZE}

-- the greatest number that a chip's next sample may have
abbrev pub max_samples_of_chip : ℕ
max_samples_of_chip = max_sample_number

-- the most samples that a chip makes as one batch
abbrev pub max_samples_of_batch : ℕ
max_samples_of_batch = BATCH_SIZE
