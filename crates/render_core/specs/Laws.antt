-- Laws of runs, of pieces and of the fade.
use Rattle.std.specs.Prelude.{◌≡◌, ◌+◌, ◌<◌, ◌≤◌, ◌++◌, ℕ, List, [], length, Bool, true, slice_get, option_map}
use Rattle.num_fix.specs.declared.Frame.{Frame}
use Rattle.trace_form.specs.declared.record.Record.{Record}
use Rattle.spc700_exec.specs.declared.cpu.Cpu.{Cpu}
use Rattle.spc700_exec.specs.Bus.{BusMeaning}
use Rattle.chip_form.specs.ChipMeaning.{ChipMeaning}
use Rattle.lock_step.specs.Emits.{Emits}
use Rattle.render_core.specs.MachineRun.{Whole, after_step, after_run}
use Rattle.render_core.specs.Items.{run_frames, run_records, records_before}
use Rattle.render_core.specs.RenderState.{RenderState, frames_to_come, records_to_come, IsNextPiece}
use Rattle.render_core.specs.Fade.{faded_frame, faded_frames}

-- as long as fewer samples are due a run takes a step, and goes on from there
abbrev pub GoesOnByAStep : {S : Type 0} → BusMeaning S → Type 0
GoesOnByAStep {S} bus =
    (samples : ℕ) (w : Whole S) → bus.due w.1 < samples → after_run bus samples w ≡ after_run bus samples (after_step bus w)

-- once they are due it takes no more
abbrev pub EndsWhereDue : {S : Type 0} → BusMeaning S → Type 0
EndsWhereDue {S} bus = (samples : ℕ) (w : Whole S) → samples ≤ bus.due w.1 → after_run bus samples w ≡ w

-- and at its end these samples are due and no more
abbrev pub EndsWithItsSamplesDue : {S : Type 0} → BusMeaning S → Type 0
EndsWithItsSamplesDue {S} bus = (samples : ℕ) (w : Whole S) → bus.due w.1 ≤ samples → bus.due (after_run bus samples w).1 ≡ samples

-- a run emits a frame for each sample that it makes, after those that are still to be drained
abbrev pub EmitsAFrameASample : {S : Type 0} → BusMeaning S → Emits S → Type 0
EmitsAFrameASample {S} bus emits =
    (samples : ℕ) (w : Whole S) → bus.due w.1 ≤ samples
    → length (run_frames bus emits samples w) + bus.due w.1 ≡ length (emits.frames w.1) + samples

-- what a drain hands over is taken from the front of what a run emits, and the rest is emitted as before
abbrev pub DrainTakesFrames : {S : Type 0} → BusMeaning S → Emits S → Type 0
DrainTakesFrames {S} bus emits =
    (samples : ℕ) (cpu : Cpu) (old new : S) (given : List Frame)
    → emits.frames old ≡ given ++ emits.frames new → emits.cleared new ≡ emits.cleared old
    → run_frames bus emits samples (cpu, old) ≡ given ++ run_frames bus emits samples (cpu, new)

abbrev pub DrainTakesRecords : {S : Type 0} → BusMeaning S → Emits S → Type 0
DrainTakesRecords {S} bus emits =
    (samples : ℕ) (cpu : Cpu) (old new : S) (given : List Record)
    → emits.records old ≡ given ++ emits.records new → emits.cleared new ≡ emits.cleared old
    → run_records bus emits samples (cpu, old) ≡ records_before samples given ++ run_records bus emits samples (cpu, new)

-- where nothing is to come the next piece is empty, and it is a last one again
abbrev pub IsEmptyAfterTheLast : {S : Type 0} → ChipMeaning S → Type 0
IsEmptyAfterTheLast {S} chip =
    (old new : RenderState S) (given : List Frame) (written : List Record) (is_last : Bool)
    → IsNextPiece chip old new given written is_last → frames_to_come chip old ≡ [] → records_to_come chip old ≡ []
    → (given ≡ []) × (written ≡ []) × (is_last ≡ true)

-- each entry of faded frames is that frame, faded at its place
abbrev pub AreFadedAtTheirPlaces : Type 0
AreFadedAtTheirPlaces =
    (frames : List Frame) (fade at : ℕ)
    → slice_get (faded_frames frames fade) at ≡ option_map (λ frame. faded_frame frame at (length frames) fade) (slice_get frames at)

-- and there are as many as before
abbrev pub AreAsManyFaded : Type 0
AreAsManyFaded = (frames : List Frame) (fade : ℕ) → length (faded_frames frames fade) ≡ length frames
