-- What `check` answers: sums over the frames of a demo file, rendered over the table of straight lines for ten seconds, and the
-- counts of the batches in which they were made.
use Rattle.std.specs.Prelude.{ℕ, ◌*◌, ◌^◌, ◌≤◌, pos, ◌+ℤ◌, ◌*ℤ◌, unsigned_abs, List, [], ◌++◌, fold, codes, decimal}
use Rattle.std.specs.Int.{int_rem_euclid}
use Rattle.std.specs.Fmt.{signed_decimal}
use Rattle.num_fix.specs.declared.Frame.{Frame}
use Rattle.lock_step.specs.declared.counts.Counts.{Counts}
use Rattle.gauss_table.specs.StraightTable.{straight_table}
use Rattle.demo_gen.specs.Demo.{demo_bytes}
use Rattle.command_runner.specs.Answer.{Answer, done}
use Rattle.render_files.specs.RenderReport.{batch_line}
use Rattle.tune_opening.specs.Tune.{tune_frames, tune_counts}
use Rattle.exit_status.specs.declared.cause.Cause.{Cause}
use Rattle.command_check.specs.declared.sums.Sums.{Sums}

-- ten seconds
abbrev pub checked_samples : ℕ
checked_samples = 320000

-- The mix with one frame more shows the order of the frames too: a sum over whole numbers, modulo 2 ^ 32.
abbrev pub next_mix : (mix : ℕ) → Frame → ℕ
next_mix mix frame = unsigned_abs (int_rem_euclid (pos (5 * mix) +ℤ frame.left +ℤ pos 3 *ℤ frame.right) (pos (2 ^ 32)))

abbrev pub sums_with : Sums → Frame → Sums
sums_with sums frame = record {
  left = sums.left +ℤ frame.left;
  right = sums.right +ℤ frame.right;
  mix = next_mix sums.mix frame;
}

abbrev pub no_sums : Sums
no_sums = record { left = pos 0; right = pos 0; mix = 0 }

abbrev pub sums_of : List Frame → Sums
sums_of frames = fold sums_with no_sums frames

-- how large the sums of so many frames get
pub record AreWithin (frames : ℕ) (sums : Sums) : Type 0 where
  pub left : unsigned_abs sums.left ≤ 32768 * frames
  pub right : unsigned_abs sums.right ≤ 32768 * frames

abbrev pub check_report : Sums → Counts → List ℕ
check_report sums counts =
    codes "samples " ++ decimal checked_samples ++ codes "\nleft " ++ signed_decimal sums.left ++ codes "\nright " ++ signed_decimal sums.right
    ++ codes "\nmix " ++ decimal sums.mix ++ codes "\n" ++ batch_line counts

-- the frames of the demo file of a number in ten seconds, and the counts of the batches in which they are made
abbrev pub demo_frames : (number : ℕ) → List Frame
demo_frames number = tune_frames (demo_bytes number) straight_table 0 0 checked_samples

abbrev pub demo_counts : (number : ℕ) → Counts
demo_counts number = tune_counts (demo_bytes number) straight_table 0 0 checked_samples

abbrev pub check_answer : (number : ℕ) → Answer Cause
check_answer number = done [] (check_report (sums_of (demo_frames number)) (demo_counts number))
