-- The marks that a player takes by itself while it plays (own): one wherever the position comes to a multiple of its spacing.
use Rattle.std.specs.Prelude.{ℕ, zero, suc, ◌+◌, ◌*◌, ◌%◌, Bool, not, ◌&&◌, ◌==◌, if◌then◌else◌, List}
use Rattle.num_fix.specs.declared.TheConstants.{SAMPLE_RATE}
use Rattle.cut_form.specs.Checkpoints.{Checkpoint}
use Rattle.cut_form.specs.Marks.{mark_at}
use Rattle.player.specs.declared.own_marks.TheConstants.{MAX_MARK_SECONDS}

-- the most seconds between two of them: an hour; and the frames of so many seconds
abbrev pub max_mark_seconds : ℕ
max_mark_seconds = MAX_MARK_SECONDS

abbrev pub spacing_of : (seconds : ℕ) → ℕ
spacing_of seconds = SAMPLE_RATE * seconds

-- whether a mark is taken at a sample; at spacing 0 none is
abbrev pub is_own_mark : (spacing at : ℕ) → Bool
is_own_mark spacing at = not (spacing == 0) && at % spacing == 0

-- the marks once the position has come to a sample. `memory` are the pages of the memory once so many samples are made
abbrev pub with_own_mark : (capacity : ℕ) → (memory : ℕ → List (List ℕ)) → (spacing at : ℕ) → List Checkpoint → List Checkpoint
with_own_mark capacity memory spacing at marks = if is_own_mark spacing at then (mark_at capacity (memory at) at marks).live else marks

-- the marks once so many frames from a sample on were played, one after another
unfoldable pub marks_after : (capacity : ℕ) → (memory : ℕ → List (List ℕ)) → (spacing from : ℕ) → List Checkpoint → (count : ℕ) → List Checkpoint
marks_after capacity memory spacing from marks zero = marks
marks_after capacity memory spacing from marks (suc count) =
    with_own_mark capacity memory spacing (from + suc count) (marks_after capacity memory spacing from marks count)
