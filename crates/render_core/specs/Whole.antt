-- A whole machine between runs: what a load makes of it, and where a run takes it. What it emitted before, and was not handed
-- over, stays as it is.
use Rattle.std.specs.Prelude.{◌≡◌, ◌≤◌, ℕ, ◌+◌, List, ◌++◌, length}
use Rattle.num_fix.specs.declared.Frame.{Frame}
use Rattle.chip_form.specs.ChipMeaning.{ChipMeaning}
use Rattle.chip_form.specs.ChipSaving.{ChipSaving}
use Rattle.lock_step.specs.Machine.{Machine}
use Rattle.lock_step.specs.LockStep.{lock_step, samples_due}
use Rattle.lock_step.specs.LockStepEmits.{lock_step_emits, drained_machine}
use Rattle.lag_bus.specs.Saved.{loaded_machine}
use Rattle.render_core.specs.declared.saved.PlayState.{PlayState}
use Rattle.render_core.specs.MachineRun.{Whole, after_run}
use Rattle.render_core.specs.Items.{run_frames}
use Rattle.render_core.specs.Saved.{saved_whole}

-- the samples that are due in it
abbrev pub due_in : {S : Type 0} → Whole (Machine S) → ℕ
due_in w = samples_due w.1

-- a whole machine with what another one emitted and was called for
abbrev pub with_lists_of : {S : Type 0} → Machine S → Whole (Machine S) → Whole (Machine S)
with_lists_of m w = (w.0, record w.1 { frames = m.frames; records = m.records; calls = m.calls })

-- a whole machine with its chip in another state
abbrev pub with_chip : {S : Type 0} → Whole (Machine S) → (chip : S) → Whole (Machine S)
with_chip w chip = (w.0, record w.1 { chip = chip })

-- the machine once what was saved is loaded over a memory
abbrev pub loaded_whole : {S V : Type 0} → ChipSaving S V → Whole (Machine S) → PlayState V → (memory : List ℕ) → Whole (Machine S)
loaded_whole saving w saved memory = with_lists_of w.1 (saved.cpu, loaded_machine saving w.1 saved.bus memory)

-- the machine after a run to so many samples
abbrev pub whole_after_run : {S : Type 0} → ChipMeaning S → (samples : ℕ) → Whole (Machine S) → Whole (Machine S)
whole_after_run chip samples w = with_lists_of w.1 (after_run (lock_step chip) samples w)

-- the frames of that run, without those emitted before
abbrev pub frames_of_run : {S : Type 0} → ChipMeaning S → (samples : ℕ) → Whole (Machine S) → List Frame
frames_of_run chip samples w = run_frames (lock_step chip) lock_step_emits samples (w.0, drained_machine w.1)

-- What holds of every whole machine.
pub record IsPlayedLawfully {S V : Type 0} (chip : ChipMeaning S) (saving : ChipSaving S V) : Type 0 where
  -- what was saved of a machine brings it back, and a load leaves nothing of what was there but what no run changes
  pub loads_back : (w : Whole (Machine S)) → loaded_whole saving w (saved_whole saving w) w.1.memory ≡ w
  pub loads_over : (w : Whole (Machine S)) (s t : PlayState V) (memory other : List ℕ)
      → loaded_whole saving (loaded_whole saving w s memory) t other ≡ loaded_whole saving w t other
  pub loads_after : (n : ℕ) (w : Whole (Machine S)) (s : PlayState V) (memory : List ℕ)
      → loaded_whole saving (whole_after_run chip n w) s memory ≡ loaded_whole saving w s memory
  -- a run makes its samples, with a frame for each, and goes on where another one ended
  pub stays : (w : Whole (Machine S)) → whole_after_run chip (due_in w) w ≡ w
  pub makes : (n : ℕ) (w : Whole (Machine S)) → due_in w ≤ n → due_in (whole_after_run chip n w) ≡ n
  pub goes_on : (k n : ℕ) (w : Whole (Machine S)) → k ≤ n → whole_after_run chip n (whole_after_run chip k w) ≡ whole_after_run chip n w
  pub counts : (n : ℕ) (w : Whole (Machine S)) → due_in w ≤ n → length (frames_of_run chip n w) + due_in w ≡ n
  pub emits : (k n : ℕ) (w : Whole (Machine S)) → k ≤ n
      → frames_of_run chip n w ≡ frames_of_run chip k w ++ frames_of_run chip n (whole_after_run chip k w)
