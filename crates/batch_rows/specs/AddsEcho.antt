-- What is there once the echo has played over a batch.
use Rattle.std.specs.Prelude.{◌≡◌, ℕ, List, ◌++◌}
use Rattle.num_fix.specs.declared.Frame.{Frame}
use Rattle.echo_unit.specs.Echo.{EchoState}
use Rattle.echo_unit.specs.EchoOverBatch.{EchoOver}

-- the echo and the memory that it leaves, and after what a list had before, its frames
pub record AddsEcho (made : EchoOver) (echo : EchoState) (memory : List ℕ) (old_frames new_frames : List Frame) : Type 0 where
  pub echo_made : echo ≡ made.echo
  pub memory_made : memory ≡ made.memory
  pub frames_made : new_frames ≡ old_frames ++ made.frames
