-- A render at its length: nothing is to come, and its machine is at rest.
use Rattle.std.proofs.Common.{◌≡◌, ◌≤◌, ◌/◌, ℕ, true, nat_le, [], sym, ◌∙◌, ap, arith}
use Rattle.std.proofs.lemmas.Bool.Decides.{nat_tests}
use Rattle.spc700_exec.specs.declared.cpu.Cpu.{Cpu}
use Rattle.chip_form.specs.ChipMeaning.{ChipMeaning}
use Rattle.lock_step.specs.Machine.{Machine}
use Rattle.lock_step.specs.LockStep.{lock_step}
use Rattle.lock_step.specs.LockStepEmits.{lock_step_emits}
use Rattle.lock_step.specs.LockStepLaws.{lock_step-lawful}
use Rattle.lag_bus.specs.Lagging.{Lagging, lagging}
use Rattle.lag_bus.specs.LagEmits.{lag_emits}
use Rattle.render_core.specs.BetweenSteps.{IsBetweenSteps}
use Rattle.render_core.specs.MachineRun.{Whole}
use Rattle.render_core.specs.Items.{run_frames, whole_at_rest, end_of_run}
use Rattle.render_core.proofs.RunBySteps.{after_run-reached}
use Rattle.spc700_exec.specs.declared.bus.TheConstants.{CYCLES_PER_SAMPLE}

module _ {S : Type 0} (chip : ChipMeaning S) (samples : ℕ) (cpu : Cpu) (bus : Lagging S) (between : IsBetweenSteps (lagging chip) (lag_emits chip) samples bus) (due : ℕ)
    (is : due ≡ bus.machine.clock / CYCLES_PER_SAMPLE) (there : nat_le samples due ≡ true) where
  pub all_due : samples ≤ bus.machine.clock / CYCLES_PER_SAMPLE
  all_due = let all : samples ≤ due = grind (arith, nat_tests) in omega arith

  pub none_to_come : run_frames (lock_step chip) lock_step_emits samples (cpu, bus.machine) ≡ []
  none_to_come =
      ap (λ (w : Whole (Machine S)). w.1.frames) (after_run-reached (lock_step chip) (lock_step-lawful chip) samples (cpu, bus.machine) all_due)
      ∙ between.frames all_due

  pub whole_there : (cpu, bus.machine) ≡ end_of_run (lock_step chip) lock_step_emits samples (cpu, bus.machine)
  whole_there =
      (λ i. (cpu, record bus.machine { frames = between.frames all_due i; records = between.records all_due i; calls = between.calls i }))
      ∙ sym (ap (λ (w : Whole (Machine S)). whole_at_rest lock_step_emits w) (after_run-reached (lock_step chip) (lock_step-lawful chip) samples (cpu, bus.machine) all_due))

-- nor is anything to come of a machine that has made all samples and emitted nothing
pub none_after : {S : Type 0} (chip : ChipMeaning S) (samples : ℕ) (w : Whole (Machine S)) → samples ≤ w.1.clock / CYCLES_PER_SAMPLE → w.1.frames ≡ [] → run_frames (lock_step chip) lock_step_emits samples w ≡ []
none_after {S} chip samples w all none = ap (λ (x : Whole (Machine S)). x.1.frames) (after_run-reached (lock_step chip) (lock_step-lawful chip) samples w all) ∙ none
