-- What contracts see of a render, and of it the items still to come.
use Rattle.std.specs.Prelude.{◌≡◌, ℕ, ◌+◌, ◌-◌, ◌*◌, ◌<◌, ◌≤◌, nat_le, List, [], ◌++◌, length, Bool, true, false, ◌↔◌}
use Rattle.num_fix.specs.declared.Frame.{Frame}
use Rattle.trace_form.specs.declared.record.Record.{Record}
use Rattle.spc700_exec.specs.declared.cpu.Cpu.{Cpu}
use Rattle.chip_form.specs.ChipMeaning.{ChipMeaning}
use Rattle.lock_step.specs.declared.counts.Counts.{Counts}
use Rattle.lag_bus.specs.Lagging.{Lagging}
use Rattle.lock_step.specs.Machine.{Machine}
use Rattle.lock_step.specs.LockStep.{lock_step, samples_due}
use Rattle.lock_step.specs.LockStepEmits.{lock_step_emits}
use Rattle.chip_form.specs.Samples.{count_after}
use Rattle.render_core.specs.MachineRun.{Whole}
use Rattle.render_core.specs.Items.{run_frames, run_records, end_of_run}
use Rattle.render_core.specs.RunCounts.{with_opened_book, run_counts}
use Rattle.spc700_exec.specs.declared.bus.TheConstants.{CYCLES_PER_SAMPLE}

pub record RenderState (S : Type 0) : Type 0 where
  -- the whole machine: the processor, and the bus with its book and what it emitted since it was drained
  pub cpu : Cpu
  pub bus : Lagging S
  -- the samples to be made
  pub samples : ℕ
  -- the piece that was made last
  pub frames : List Frame
  pub records : List Record

-- the frames and the records still to come: those that the machine in lock step emits from here until its samples are made
abbrev pub frames_to_come : {S : Type 0} → ChipMeaning S → RenderState S → List Frame
frames_to_come chip render = run_frames (lock_step chip) lock_step_emits render.samples (render.cpu, render.bus.machine)

abbrev pub records_to_come : {S : Type 0} → ChipMeaning S → RenderState S → List Record
records_to_come chip render = run_records (lock_step chip) lock_step_emits render.samples (render.cpu, render.bus.machine)

-- the counts of batches that there will be once the samples are made
abbrev pub counts_to_come : {S : Type 0} → ChipMeaning S → RenderState S → Counts
counts_to_come chip render = run_counts chip render.samples (render.cpu, render.bus)

-- whether it is at its length
abbrev pub is_at_length : {S : Type 0} → RenderState S → Bool
is_at_length render = nat_le render.samples (samples_due render.bus.machine)

-- the whole machine there: the one that the machine in lock step reaches from here
abbrev pub whole_at_length : {S : Type 0} → ChipMeaning S → RenderState S → Whole (Machine S)
whole_at_length chip render = end_of_run (lock_step chip) lock_step_emits render.samples (render.cpu, render.bus.machine)

-- A render at its length: it gave all its frames, no sample is pending, its chip's next sample is the first one after it, and it holds the
-- machine there.
pub record HasArrived {S : Type 0} (chip : ChipMeaning S) (render : RenderState S) : Type 0 where
  pub given : frames_to_come chip render ≡ []
  pub settled : render.bus.book.pending ≡ 0
  pub sample : render.bus.chip_sample ≡ render.samples
  pub whole : (render.cpu, render.bus.machine) ≡ whole_at_length chip render

-- A render of so many samples as it is opened: it has this whole machine, over a chip that made so many samples in all, and all of the
-- machine's run is to come.
pub record IsOpenedOver {S : Type 0} (chip : ChipMeaning S) (machine : Whole (Machine S)) (made wanted : ℕ) (render : RenderState S) : Type 0 where
  pub whole : (render.cpu, render.bus) ≡ with_opened_book chip machine made
  pub samples : render.samples ≡ wanted
  pub frames : frames_to_come chip render ≡ run_frames (lock_step chip) lock_step_emits wanted machine
  pub records : records_to_come chip render ≡ run_records (lock_step chip) lock_step_emits wanted machine
  pub counts : counts_to_come chip render ≡ run_counts chip wanted (with_opened_book chip machine made)
  -- a frame for each sample
  pub count : length (frames_to_come chip render) ≡ wanted
  pub at_length : whole_at_length chip render ≡ end_of_run (lock_step chip) lock_step_emits wanted machine

-- frames and records that are the next piece between two states of a render, and whether it is the last one
pub record IsNextPiece {S : Type 0} (chip : ChipMeaning S) (old new : RenderState S) (given : List Frame) (written : List Record)
    (is_last : Bool) : Type 0 where
  -- the piece, followed by what is then still to come, is what was to come before it
  pub frames : frames_to_come chip old ≡ given ++ frames_to_come chip new
  pub records : records_to_come chip old ≡ written ++ records_to_come chip new
  -- it is the last one exactly where nothing is to come after it
  pub done : (is_last ≡ true) ↔ ((frames_to_come chip new ≡ []) × (records_to_come chip new ≡ []))
  -- else it has a frame or a record
  pub some : is_last ≡ false → 0 < length given + length written
  -- and the clock went on, so that a loop over the pieces ends
  pub later : is_last ≡ false → old.bus.machine.clock < new.bus.machine.clock
  pub below : is_last ≡ false → new.bus.machine.clock < CYCLES_PER_SAMPLE * new.samples
  -- the counts will be the same, and with the last piece they are there
  pub counts : counts_to_come chip new ≡ counts_to_come chip old
  pub counted : is_last ≡ true → new.bus.book.counts ≡ counts_to_come chip new
  pub samples : new.samples ≡ old.samples
  -- the machine at the length will be the same, and with the last piece it is there
  pub whole : whole_at_length chip new ≡ whole_at_length chip old
  pub at_length : is_last ≡ is_at_length new
  -- the chip made as many samples as the number of its next one rose by
  pub rises : old.bus.chip_sample ≤ new.bus.chip_sample
  pub total : new.bus.chip_total ≡ count_after old.bus.chip_total (new.bus.chip_sample - old.bus.chip_sample)
