-- What the machine of a tune emits: a file with a table of weights, muted voices and a mask of voices.
use Rattle.std.specs.Prelude.{ℕ, ℤ, List}
use Rattle.num_fix.specs.declared.Frame.{Frame}
use Rattle.trace_form.specs.declared.record.Record.{Record}
use Rattle.spc_form.specs.Layout.{dsp_of}
use Rattle.dsp_state.specs.declared.state.ChipState.{ChipState}
use Rattle.dsp_state.specs.Outside.{opened_state}
use Rattle.cut_form.specs.Checkpoints.{pages_of}
use Rattle.lock_step.specs.declared.counts.Counts.{Counts}
use Rattle.dsp_core.specs.DspChip.{dsp_chip}
use Rattle.lock_step.specs.Machine.{Machine}
use Rattle.lock_step.specs.LockStep.{lock_step}
use Rattle.lock_step.specs.LockStepEmits.{lock_step_emits}
use Rattle.render_core.specs.MachineRun.{Whole, after_run}
use Rattle.render_core.specs.Opening.{opened_whole}
use Rattle.render_core.specs.Items.{run_frames, run_records}
use Rattle.render_core.specs.RunCounts.{with_opened_book, run_counts}

-- the whole machine that the file opens, with these voices muted; bit v of the mask lets it emit the records of voice v
abbrev pub opened_tune : (file : List ℕ) → (table : List ℤ) → (muted mask : ℕ) → Whole (Machine ChipState)
opened_tune file table muted mask = opened_whole file (opened_state (dsp_of file) table muted) mask

-- the frames of its run to so many samples
abbrev pub tune_frames : (file : List ℕ) → (table : List ℤ) → (muted mask samples : ℕ) → List Frame
tune_frames file table muted mask samples = run_frames (lock_step dsp_chip) lock_step_emits samples (opened_tune file table muted mask)

-- and the records up to the last of them
abbrev pub tune_records : (file : List ℕ) → (table : List ℤ) → (muted mask samples : ℕ) → List Record
tune_records file table muted mask samples = run_records (lock_step dsp_chip) lock_step_emits samples (opened_tune file table muted mask)

-- and how often the chip ran for them, and why
abbrev pub tune_counts : (file : List ℕ) → (table : List ℤ) → (muted mask samples : ℕ) → Counts
tune_counts file table muted mask samples = run_counts dsp_chip samples (with_opened_book dsp_chip (opened_tune file table muted mask) 0)

-- the 256 pages of the memory that its run has once so many samples are made
abbrev pub tune_pages : (file : List ℕ) → (table : List ℤ) → (muted samples : ℕ) → List (List ℕ)
tune_pages file table muted samples = pages_of (after_run (lock_step dsp_chip) samples (opened_tune file table muted 0)).1.memory

-- and the S-DSP that it has then
abbrev pub tune_chip : (file : List ℕ) → (table : List ℤ) → (muted samples : ℕ) → ChipState
tune_chip file table muted samples = (after_run (lock_step dsp_chip) samples (opened_tune file table muted 0)).1.chip
