-- How often the chip makes samples in a run, and why.
use Rattle.std.specs.Prelude.{ℕ}
use Rattle.lock_step.specs.declared.counts.Counts.{Counts}
use Rattle.chip_form.specs.ChipMeaning.{ChipMeaning}
use Rattle.lock_step.specs.Machine.{Machine}
use Rattle.lag_bus.specs.Lagging.{Lagging, opened_lagging, after_settle, lagging}
use Rattle.render_core.specs.MachineRun.{Whole, after_run}

-- the whole machine with the flush statistics of its opening, over a chip that made so many samples in all
abbrev pub with_opened_book : {S : Type 0} → ChipMeaning S → Whole (Machine S) → (total : ℕ) → Whole (Lagging S)
with_opened_book chip w total = (w.0, opened_lagging chip w.1 total)

-- the flush statistics after a run to so many samples, once the chip has made the last of them
abbrev pub run_counts : {S : Type 0} → ChipMeaning S → (samples : ℕ) → Whole (Lagging S) → Counts
run_counts chip samples w = (after_settle chip (after_run (lagging chip) samples w).1).book.counts
