-- What a run emits: the frames, and the records up to the last of them. What the machine had emitted before, and was not
-- drained yet, stands first. And the machine that it leaves.
use Rattle.std.specs.Prelude.{ℕ, nat_lt, List, filter}
use Rattle.num_fix.specs.declared.Frame.{Frame}
use Rattle.trace_form.specs.declared.record.Record.{Record}
use Rattle.spc700_exec.specs.Bus.{BusMeaning}
use Rattle.lock_step.specs.Emits.{Emits}
use Rattle.lock_step.specs.SampleNumbers.{sample_number}
use Rattle.render_core.specs.MachineRun.{Whole, after_run}

-- the frames of a run to so many samples
abbrev pub run_frames : {S : Type 0} → BusMeaning S → Emits S → (samples : ℕ) → Whole S → List Frame
run_frames bus emits samples w = emits.frames (after_run bus samples w).1

-- the records up to the last frame of so many samples: all that have a sample number below that. A step may go on after
-- its sample, so that a run emits later ones too
abbrev pub records_before : (samples : ℕ) → List Record → List Record
records_before samples records = filter (λ item. nat_lt (sample_number item) samples) records

-- the records of a run to so many samples
abbrev pub run_records : {S : Type 0} → BusMeaning S → Emits S → (samples : ℕ) → Whole S → List Record
run_records bus emits samples w = records_before samples (emits.records (after_run bus samples w).1)

-- a whole machine whose bus is at rest
abbrev pub whole_at_rest : {S : Type 0} → Emits S → Whole S → Whole S
whole_at_rest emits w = (w.0, emits.at_rest w.1)

-- the whole machine at the end of a run to so many samples, at rest
abbrev pub end_of_run : {S : Type 0} → BusMeaning S → Emits S → (samples : ℕ) → Whole S → Whole S
end_of_run bus emits samples w = whole_at_rest emits (after_run bus samples w)
