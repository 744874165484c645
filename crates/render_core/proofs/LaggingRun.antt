-- A run of the machine with its flush statistics beside it is the run of the machine in lock step.
use Rattle.std.proofs.Common.{◌≡◌, ℕ, refl, ap}
use Rattle.spc700_exec.specs.declared.cpu.Cpu.{Cpu}
use Rattle.chip_form.specs.ChipMeaning.{ChipMeaning}
use Rattle.lock_step.specs.Machine.{Machine}
use Rattle.lock_step.specs.LockStep.{lock_step}
use Rattle.lock_step.specs.LockStepEmits.{lock_step_emits}
use Rattle.lag_bus.specs.Lagging.{Lagging, lagging, after_settle}
use Rattle.lag_bus.specs.LagEmits.{lag_emits}
use Rattle.render_core.specs.MachineRun.{Whole, after_run}
use Rattle.render_core.specs.Items.{run_frames, run_records, records_before, whole_at_rest, end_of_run}
use Rattle.render_core.proofs.RunsOfSeenBus.{IsSeen, seen-after_run}

module _ {S : Type 0} (chip : ChipMeaning S) where
  pub machine_seen : IsSeen (lagging chip) (lock_step chip) (λ (bus : Lagging S). bus.machine)
  machine_seen = record {
    byte = λ bus at. refl;
    read = λ bus at. refl;
    write = λ bus at value. refl;
    pass = λ bus cycles. refl;
    clock = λ bus. refl;
    due = λ bus. refl;
  }

  pub machine-after_run : (samples : ℕ) (cpu : Cpu) (bus : Lagging S) → after_run (lock_step chip) samples (cpu, bus.machine) ≡ (let w = after_run (lagging chip) samples (cpu, bus) in (w.0, w.1.machine))
  machine-after_run samples cpu bus = seen-after_run (lagging chip) (lock_step chip) (λ (bus : Lagging S). bus.machine) machine_seen samples (cpu, bus)

  pub run_frames-lagging : (samples : ℕ) (cpu : Cpu) (bus : Lagging S) → run_frames (lock_step chip) lock_step_emits samples (cpu, bus.machine) ≡ run_frames (lagging chip) (lag_emits chip) samples (cpu, bus)
  run_frames-lagging samples cpu bus = ap (λ (w : Whole (Machine S)). w.1.frames) (machine-after_run samples cpu bus)

  pub run_records-lagging : (samples : ℕ) (cpu : Cpu) (bus : Lagging S) → run_records (lock_step chip) lock_step_emits samples (cpu, bus.machine) ≡ run_records (lagging chip) (lag_emits chip) samples (cpu, bus)
  run_records-lagging samples cpu bus = ap (λ (w : Whole (Machine S)). records_before samples w.1.records) (machine-after_run samples cpu bus)

  pub end_of_run-lagging : (samples : ℕ) (cpu : Cpu) (bus : Lagging S)
      → end_of_run (lock_step chip) lock_step_emits samples (cpu, bus.machine) ≡ (let w = end_of_run (lagging chip) (lag_emits chip) samples (cpu, bus) in (w.0, w.1.machine))
  end_of_run-lagging samples cpu bus = ap (λ (w : Whole (Machine S)). whole_at_rest lock_step_emits w) (machine-after_run samples cpu bus)

  -- where nothing is pending the settling at the end of a run adds nothing
  pub counts-settled : (bus : Lagging S) → bus.book.pending ≡ 0 → (after_settle chip bus).book.counts ≡ bus.book.counts
  counts-settled bus none = rw none refl
