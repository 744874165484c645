-- How many frames a session plays: it is known from the lines that seek and play alone.
use Rattle.std.specs.Prelude.{ℕ, ◌+◌, ◌≤◌, ◌&&◌, nat_le, if◌then◌else◌, List, [], ◌∷◌}
use Rattle.num_fix.specs.Limits.{max_frames}
use Rattle.cut_form.specs.declared.script.ScriptLine.{ScriptLine}
use Rattle.cut_form.specs.declared.script.ScriptLine.TheVariants.{Seek, Play, Mark, Drop, Free}

-- the number of a line is an hour of sound at most
abbrev pub IsWithinHour : ScriptLine → Type 0
IsWithinHour (Seek at) = at ≤ max_frames
IsWithinHour (Play count) = count ≤ max_frames
IsWithinHour Mark = Unit {0}
IsWithinHour (Drop sample) = sample ≤ max_frames
IsWithinHour Free = Unit {0}

-- the frames played once lines are answered, where a session stands at a position and has played so many
abbrev pub played_frames : (position frames : ℕ) → List ScriptLine → ℕ
played_frames position frames [] = frames
played_frames position frames (Seek at ∷ lines) = played_frames at frames lines
played_frames position frames (Play count ∷ lines) =
    if nat_le (position + count) max_frames && nat_le (frames + count) max_frames then played_frames (position + count) (frames + count) lines
    else played_frames position frames lines
played_frames position frames (Mark ∷ lines) = played_frames position frames lines
played_frames position frames (Drop sample ∷ lines) = played_frames position frames lines
played_frames position frames (Free ∷ lines) = played_frames position frames lines
