-- The samples of a rip as bytes, block by block.
use Rattle.std.specs.Prelude.{ℕ, ◌-◌, ℤ, Bool, List, [], if◌then◌else◌}
use Rattle.std.specs.List.{flat_map}
use Rattle.wav_form.specs.Wave.{sample_bytes}
use Rattle.sample_rip.specs.Walk.{WalkState, samples_ahead}
use Rattle.command_runner.specs.Stream.{Both}

pub record PiecesState : Type 0 where
  pub memory : List ℕ
  pub walk : WalkState
  -- the bytes of the block that was decoded last, and whether none is left
  pub piece : List ℕ
  pub is_done : Bool

-- the samples as bytes
abbrev pub wave_bytes : List ℤ → List ℕ
wave_bytes samples = flat_map sample_bytes samples

-- the piece that was made last, for the only output
abbrev pub held_of : PiecesState → Both
held_of source = record { wave = if source.is_done then [] else source.piece; trace = [] }

abbrev pub to_come_of : PiecesState → Both
to_come_of source = record { wave = wave_bytes (samples_ahead source.memory source.walk); trace = [] }

-- the blocks that are left
abbrev pub work_of : PiecesState → ℕ
work_of source = source.walk.blocks - source.walk.passed
