-- A walk over the samples of a rip, block by block.
use Rattle.std.specs.Prelude.{◌≡◌, ℕ, ◌*◌, ℤ, pos, List, ◌++◌, drop}
use Rattle.brr_decode.specs.Kept.{samples_of, with_all_kept, digits_of, EndsWith}
use Rattle.sample_rip.specs.Blocks.{block_bytes, stream_of}
use Rattle.sample_rip.specs.declared.found.RipFound.{RipFound}

-- where a walk stands: so many of the blocks are passed, and these are the last two samples
pub record WalkState : Type 0 where
  pub start : ℕ
  pub blocks : ℕ
  pub passed : ℕ
  pub last : ℤ
  pub before : ℤ

-- a walk at its start
abbrev pub walk_start : RipFound → WalkState
walk_start found = record { start = found.start; blocks = found.blocks; passed = 0; last = pos 0; before = pos 0 }

-- the last two samples are those of the blocks that were passed, in this memory
abbrev pub IsWalkOver : (memory : List ℕ) → WalkState → Type 0
IsWalkOver memory walk = EndsWith (samples_of (stream_of memory walk.start walk.passed)) walk.before walk.last

-- the samples that are still to come
abbrev pub samples_ahead : (memory : List ℕ) → WalkState → List ℤ
samples_ahead memory walk = drop (16 * walk.passed) (samples_of (stream_of memory walk.start walk.blocks))

-- sixteen samples are those of the next block in this memory: what is kept of it after any samples that end with the last two
abbrev pub IsNextBlock : (memory : List ℕ) → WalkState → (block : List ℤ) → Type 0
IsNextBlock memory walk block =
    (samples : List ℤ) → EndsWith samples walk.before walk.last
    → with_all_kept samples (digits_of (block_bytes memory walk.start walk.passed)) ≡ samples ++ block
