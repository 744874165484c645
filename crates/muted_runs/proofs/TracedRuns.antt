-- A run gives the same frames whichever voices are traced: seen without its mask and its records, the machine in lock step is a machine of its own.
use Rattle.std.proofs.Common.{◌≡◌, ◌∙◌, sym, ap, refl, ℕ, ◌+◌, [], Bool, true, false}
use Rattle.std.specs.Prelude.{if◌then◌else◌}
use Rattle.ports_timers.specs.Io.{after_ticks_of}
use Rattle.ports_timers.specs.declared.io.Io.{Io}
use Rattle.spc700_exec.specs.declared.cpu.Cpu.{Cpu}
use Rattle.spc700_exec.specs.Bus.{BusMeaning}
use Rattle.chip_form.specs.ChipMeaning.{ChipMeaning}
use Rattle.lock_step.specs.Machine.{Machine}
use Rattle.lock_step.specs.LockStep.{lock_step, crosses_sample, after_sample}
use Rattle.lock_step.specs.LockStepEmits.{lock_step_emits}
use Rattle.render_core.specs.MachineRun.{Whole}
use Rattle.render_core.specs.Items.{run_frames}
use Rattle.render_core.proofs.RunsOfSeenBus.{IsSeen, seen-after_run}

module _ {S : Type 0} (chip : ChipMeaning S) where
  abbrev untraced : Machine S → Machine S
  untraced m = record m { mask = 0; records = [] }

  abbrev untraced_bus : BusMeaning (Machine S)
  untraced_bus = record {
    read = λ m at. (((lock_step chip).read m at).0, untraced ((lock_step chip).read m at).1);
    write = λ m at value. untraced ((lock_step chip).write m at value);
    pass = λ m cycles. untraced ((lock_step chip).pass m cycles);
    calls = (lock_step chip).calls;
    clock = (lock_step chip).clock;
    due = (lock_step chip).due;
  }

  abbrev at : Machine S → Io → (clock calls : ℕ) → Machine S
  at m io clock calls = record m { io = io; clock = clock; calls = calls }

  seen-pass : (b : Bool) (m : Machine S) (io : Io) (clock calls : ℕ)
      → untraced (at (if b then after_sample chip (untraced m) else untraced m) io clock calls) ≡ untraced (at (if b then after_sample chip m else m) io clock calls)
  seen-pass true m io clock calls = refl
  seen-pass false m io clock calls = refl

  seen : IsSeen (lock_step chip) untraced_bus untraced
  seen = record {
    byte = λ m at. refl;
    read = λ m at. refl;
    write = λ m at value. refl;
    pass = λ m cycles. seen-pass (crosses_sample m.clock cycles) m (after_ticks_of m.io m.clock cycles) (m.clock + cycles) (m.calls + 1);
    clock = λ m. refl;
    due = λ m. refl;
  }

  pub run_frames-mask : (samples : ℕ) (cpu : Cpu) (m : Machine S) (mask : ℕ)
      → run_frames (lock_step chip) lock_step_emits samples (cpu, record m { mask = mask }) ≡ run_frames (lock_step chip) lock_step_emits samples (cpu, m)
  run_frames-mask samples cpu m mask =
      ap (λ (w : Whole (Machine S)). w.1.frames)
      (sym (seen-after_run (lock_step chip) untraced_bus untraced seen samples (cpu, record m { mask = mask }))
      ∙ seen-after_run (lock_step chip) untraced_bus untraced seen samples (cpu, m))
