-- A run goes on after iterations that were made at once, and after steps that were taken.
use Rattle.std.proofs.Common.{◌≡◌, ℕ, zero, suc, ◌/◌, ◌<◌, ◌≤◌, List, [], refl, sym, ap, ◌∙◌, arith}
use Rattle.spc700_exec.specs.declared.cpu.Cpu.{Cpu}
use Rattle.spc700_exec.specs.Bus.{BusMeaning, IsLawful}
use Rattle.spc700_exec.specs.Emitting.{IsEmitting}
use Rattle.spc700_exec.specs.Instruction.{step_outcome}
use Rattle.spc700_exec.proofs.Bounds.{clock-step_outcome-least}
use Rattle.lock_step.specs.Emits.{Emits, IsCounting, IsBeside}
use Rattle.lock_step.proofs.ChipCounts.{counts_on_then}
use Rattle.render_core.specs.MachineRun.{Whole, after_step, after_run}
use Rattle.render_core.specs.Items.{whole_at_rest, end_of_run}
use Rattle.render_core.specs.BetweenSteps.{RunsAlike}
use Rattle.render_core.proofs.RunBySteps.{after_run-next}
use Rattle.render_core.proofs.ItemsBeforeRun.{items-after_run-drained, end-after_run-drained}
use Rattle.render_core.proofs.CountedSteps.{counted-steps}
use Rattle.idle_loops.specs.ReadOnly.{after_n_steps}
use Rattle.lock_step.specs.WaitOfIterations.{IsWaitOf}
use Rattle.lock_step.specs.StepsOfRun.{AreStepsOf}
use Rattle.spc700_exec.specs.declared.bus.TheConstants.{CYCLES_PER_SAMPLE}

pub runs_alike-then : {S : Type 0} {bus : BusMeaning S} {emits : Emits S} {samples : ℕ} {u v w : Whole S} → RunsAlike bus emits samples u v → RunsAlike bus emits samples v w → RunsAlike bus emits samples u w
runs_alike-then first second = record {
  frames = first.frames ∙ second.frames;
  records = first.records ∙ second.records;
  at_end = first.at_end ∙ second.at_end;
  counted = counts_on_then first.counted second.counted;
}

module _ {S : Type 0} (bus : BusMeaning S) (lawful : IsLawful bus) (samples : ℕ) where
  -- steps that end before the last sample are the first ones of the run
  after_run-steps : (n : ℕ) (w : Whole S) → bus.due (after_n_steps bus n w).1 < samples → after_run bus samples w ≡ after_run bus samples (after_n_steps bus n w)
  unfolding after_n_steps after_step
  after_run-steps zero w more = refl
  after_run-steps (suc n) w more =
      let v : Whole S = after_n_steps bus n w in
      let later = clock-step_outcome-least bus lawful v.0 v.1 in
      let due = lawful.samples v.1 in
      let next_due = lawful.samples (step_outcome bus v.0 v.1).1 in
      let before : bus.due v.1 < samples = omega arith in
      after_run-steps n w before ∙ after_run-next bus lawful samples v before

  -- steps of which none begins at the end of the run are its first ones
  after_run-begun : (n : ℕ) (w : Whole S) → ((k : ℕ) → k < n → bus.due (after_n_steps bus k w).1 < samples) → after_run bus samples w ≡ after_run bus samples (after_n_steps bus n w)
  unfolding after_n_steps after_step
  after_run-begun zero w begun = refl
  after_run-begun (suc n) w begun =
      after_run-begun n w (λ k few. begun k (omega arith)) ∙ after_run-next bus lawful samples (after_n_steps bus n w) (begun n (omega arith))

  clock-after_n_steps : (n : ℕ) (w : Whole S) → bus.clock w.1 ≤ bus.clock (after_n_steps bus n w).1
  unfolding after_n_steps
  clock-after_n_steps zero w = omega arith
  clock-after_n_steps (suc n) w =
      let v : Whole S = after_n_steps bus n w in
      let before = clock-after_n_steps n w in
      let later = clock-step_outcome-least bus lawful v.0 v.1 in
      omega arith

  module _ (emits : Emits S) (cpu : Cpu) (old new : S) (wait : IsWaitOf bus emits samples cpu old new) where
    abbrev reached : S
    reached = (after_n_steps bus wait.steps (cpu, old)).1

    -- the bus that was reached has as many samples due as the other one
    due-reached : {I : Type 0} (items : S → List I) → IsEmitting bus emits.cleared items → bus.due reached ≡ bus.due new
    due-reached items law =
        let clock : bus.clock reached ≡ bus.clock new = sym (law.clock reached) ∙ ap bus.clock wait.cleared ∙ law.clock new in
        lawful.samples reached ∙ ap (λ (c : ℕ). c / CYCLES_PER_SAMPLE) clock ∙ sym (lawful.samples new)

    pub after_run-reached-wait : {I : Type 0} (items : S → List I) → IsEmitting bus emits.cleared items
        → after_run bus samples (cpu, old) ≡ after_run bus samples (cpu, reached)
    after_run-reached-wait items law =
        let due = due-reached items law in
        let below = wait.below in
        after_run-steps wait.steps (cpu, old) (omega arith) ∙ ap (λ (c : Cpu). after_run bus samples (c, reached)) wait.registers

    items-after_run-wait : {I : Type 0} (items : S → List I) → IsEmitting bus emits.cleared items → items reached ≡ items new
        → items (after_run bus samples (cpu, old)).1 ≡ items (after_run bus samples (cpu, new)).1
    items-after_run-wait items law same =
        ap (λ (w : Whole S). items w.1) (after_run-reached-wait items law)
        ∙ items-after_run-drained bus lawful emits.cleared items law samples cpu reached new [] same (sym wait.cleared)

    end-after_run-wait : {I : Type 0} (items : S → List I) → IsEmitting bus emits.cleared items → IsBeside emits → items reached ≡ items new
        → end_of_run bus emits samples (cpu, old) ≡ end_of_run bus emits samples (cpu, new)
    end-after_run-wait items law beside same =
        ap (whole_at_rest emits) (after_run-reached-wait items law)
        ∙ end-after_run-drained bus lawful emits.cleared items law samples emits.at_rest beside.at_rest cpu reached new [] same (sym wait.cleared)

    -- a run emits the same after the wait, and comes to the same end
    pub runs_alike-wait : IsEmitting bus emits.cleared emits.frames → IsEmitting bus emits.cleared emits.records → IsBeside emits → RunsAlike bus emits samples (cpu, old) (cpu, new)
    runs_alike-wait of_frames of_records beside = record {
      frames = items-after_run-wait emits.frames of_frames wait.frames;
      records = items-after_run-wait emits.records of_records wait.records;
      at_end = end-after_run-wait emits.frames of_frames beside wait.frames;
      counted = wait.counts;
    }

    pub clock-wait : {I : Type 0} (items : S → List I) → IsEmitting bus emits.cleared items → bus.clock old ≤ bus.clock new
    clock-wait items law =
        let clock : bus.clock reached ≡ bus.clock new = sym (law.clock reached) ∙ ap bus.clock wait.cleared ∙ law.clock new in
        let later = clock-after_n_steps wait.steps (cpu, old) in
        omega arith

  -- and after steps that were taken
  module _ (emits : Emits S) (cpu next : Cpu) (old new : S) (taken : AreStepsOf bus emits samples cpu old next new) where
    abbrev came : S
    came = (after_n_steps bus taken.steps (cpu, old)).1

    after_run-came : after_run bus samples (cpu, old) ≡ after_run bus samples (next, came)
    after_run-came =
        after_run-begun taken.steps (cpu, old) taken.begun ∙ ap (λ (c : Cpu). after_run bus samples (c, came)) taken.registers

    items-after_run-steps : {I : Type 0} (items : S → List I) → IsEmitting bus emits.cleared items → items came ≡ items new
        → items (after_run bus samples (cpu, old)).1 ≡ items (after_run bus samples (next, new)).1
    items-after_run-steps items law same =
        ap (λ (w : Whole S). items w.1) after_run-came
        ∙ items-after_run-drained bus lawful emits.cleared items law samples next came new [] same (sym taken.cleared)

    end-after_run-steps : {I : Type 0} (items : S → List I) → IsEmitting bus emits.cleared items → IsBeside emits → items came ≡ items new
        → end_of_run bus emits samples (cpu, old) ≡ end_of_run bus emits samples (next, new)
    end-after_run-steps items law beside same =
        ap (whole_at_rest emits) after_run-came
        ∙ end-after_run-drained bus lawful emits.cleared items law samples emits.at_rest beside.at_rest next came new [] same (sym taken.cleared)

    pub runs_alike-steps : IsEmitting bus emits.cleared emits.frames → IsEmitting bus emits.cleared emits.records → IsBeside emits → IsCounting bus emits → RunsAlike bus emits samples (cpu, old) (next, new)
    runs_alike-steps of_frames of_records beside counting = record {
      frames = items-after_run-steps emits.frames of_frames taken.frames;
      records = items-after_run-steps emits.records of_records taken.records;
      at_end = end-after_run-steps emits.frames of_frames beside taken.frames;
      counted = counted-steps bus emits counting lawful emits.frames of_frames beside samples cpu next old new taken;
    }
