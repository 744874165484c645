-- Words of the contracts of making, about moments between two steps of a run to so many samples; no promise speaks of them.
use Rattle.std.specs.Prelude.{◌≡◌, ◌≤◌, ℕ, List, [], ◌++◌}
use Rattle.num_fix.specs.declared.Frame.{Frame}
use Rattle.trace_form.specs.declared.record.Record.{Record}
use Rattle.spc700_exec.specs.Bus.{BusMeaning}
use Rattle.lock_step.specs.Emits.{Emits, IsCountedOn}
use Rattle.render_core.specs.MachineRun.{Whole, after_run}
use Rattle.render_core.specs.Items.{run_frames, run_records, end_of_run}

-- nothing was called since the last drain, and at the end of the run all was handed over
pub record IsBetweenSteps {S : Type 0} (bus : BusMeaning S) (emits : Emits S) (samples : ℕ) (s : S) : Type 0 where
  pub calls : bus.calls s ≡ 0
  pub frames : samples ≤ bus.due s → emits.frames s ≡ []
  pub records : samples ≤ bus.due s → emits.records s ≡ []
  pub pending : samples ≤ bus.due s → emits.pending s ≡ 0

-- the run emits the same from both of two moments, and comes to the same end; the chip counts on from the first to the second
pub record RunsAlike {S : Type 0} (bus : BusMeaning S) (emits : Emits S) (samples : ℕ) (old new : Whole S) : Type 0 where
  pub frames : run_frames bus emits samples old ≡ run_frames bus emits samples new
  -- those after the last frame too
  pub records : emits.records (after_run bus samples old).1 ≡ emits.records (after_run bus samples new).1
  pub at_end : end_of_run bus emits samples old ≡ end_of_run bus emits samples new
  pub counted : IsCountedOn bus emits old.1 new.1

-- what the run emits from the first of two moments is what was handed over by the second, and what it emits from there to the same end
pub record HandsOver {S : Type 0} (bus : BusMeaning S) (emits : Emits S) (samples : ℕ) (old new : Whole S) (given : List Frame)
    (written : List Record) : Type 0 where
  pub frames : run_frames bus emits samples old ≡ given ++ run_frames bus emits samples new
  pub records : run_records bus emits samples old ≡ written ++ run_records bus emits samples new
  pub at_end : end_of_run bus emits samples old ≡ end_of_run bus emits samples new
  pub counted : IsCountedOn bus emits old.1 new.1

-- the run is over: it takes no more steps, all its samples are made, and nothing is to come
pub record IsOver {S : Type 0} (bus : BusMeaning S) (emits : Emits S) (samples : ℕ) (w : Whole S) : Type 0 where
  pub still : after_run bus samples w ≡ w
  pub settled : emits.pending w.1 ≡ 0
  pub frames : run_frames bus emits samples w ≡ []
  pub records : run_records bus emits samples w ≡ []
