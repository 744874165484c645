-- The machine in lock step is a lawful bus, and emits as a bus is to emit.
use Rattle.std.proofs.Common.{◌≡◌, ℕ, ◌+◌, ◌/◌, ◌≤◌, ◌<◌, Bool, true, false, ◌++◌, length, refl, sym, arith, length-append}
use Rattle.std.specs.Prelude.{if◌then◌else◌}
use Rattle.std.proofs.lemmas.List.{append-nil}
use Rattle.std.proofs.lemmas.Bool.Decides.{nat_tests}
use Rattle.ports_timers.specs.Io.{after_ticks_of}
use Rattle.spc700_exec.specs.Bus.{IsLawful}
use Rattle.spc700_exec.specs.Emitting.{IsEmitting}
use Rattle.chip_form.specs.ChipMeaning.{ChipMeaning}
use Rattle.lock_step.specs.Machine.{Machine}
use Rattle.lock_step.specs.LockStep.{lock_step, after_sample, crosses_sample}
use Rattle.chip_form.specs.Samples.{count_after}
use Rattle.lock_step.specs.Emits.{IsFrameEach, CountsOn, IsCounting, IsBeside}
use Rattle.lock_step.specs.LockStepEmits.{drained_machine, lock_step_emits}
use Rattle.spc700_exec.specs.declared.bus.TheConstants.{CYCLES_PER_SAMPLE}

module _ {S : Type 0} (chip : ChipMeaning S) where
  pub lock_step-lawful : IsLawful (lock_step chip)
  lock_step-lawful = record {
    read_calls = λ _ _. refl;
    read_clock = λ _ _. refl;
    write_calls = λ _ _ _. refl;
    write_clock = λ _ _ _. refl;
    pass_calls = λ _ _. refl;
    pass_clock = λ _ _. refl;
    samples = λ _. refl;
  }

  abbrev machine_after_pass : (m : Machine S) (cycles : ℕ) (made : Machine S) → Machine S
  machine_after_pass m cycles made = record made { io = after_ticks_of m.io m.clock cycles; clock = m.clock + cycles; calls = m.calls + 1 }

  pass_next : (m : Machine S) (cycles : ℕ) (b : Bool)
      → drained_machine (machine_after_pass m cycles (if b then after_sample chip m else m))
      ≡ drained_machine (machine_after_pass (drained_machine m) cycles (if b then after_sample chip (drained_machine m) else drained_machine m))
  pass_next m cycles true = refl
  pass_next m cycles false = refl

  pass_frames : (m : Machine S) (cycles : ℕ) (b : Bool)
      → (machine_after_pass m cycles (if b then after_sample chip m else m)).frames
      ≡ m.frames ++ (machine_after_pass (drained_machine m) cycles (if b then after_sample chip (drained_machine m) else drained_machine m)).frames
  pass_frames m cycles true = refl
  pass_frames m cycles false = sym (append-nil m.frames)

  pass_records : (m : Machine S) (cycles : ℕ) (b : Bool)
      → (machine_after_pass m cycles (if b then after_sample chip m else m)).records
      ≡ m.records ++ (machine_after_pass (drained_machine m) cycles (if b then after_sample chip (drained_machine m) else drained_machine m)).records
  pass_records m cycles true = refl
  pass_records m cycles false = sym (append-nil m.records)

  pub emits_frames : IsEmitting (lock_step chip) drained_machine (λ m. m.frames)
  emits_frames = record {
    again = λ m. refl;
    none = λ m. refl;
    clock = λ m. refl;
    read_byte = λ m at. refl;
    read_next = λ m at. refl;
    read_items = λ m at. sym (append-nil m.frames);
    write_next = λ m at value. refl;
    write_items = λ m at value. sym (append-nil m.frames);
    pass_next = λ m cycles. pass_next m cycles (crosses_sample m.clock cycles);
    pass_items = λ m cycles. pass_frames m cycles (crosses_sample m.clock cycles);
  }

  pub emits_records : IsEmitting (lock_step chip) drained_machine (λ m. m.records)
  emits_records = record {
    again = λ m. refl;
    none = λ m. refl;
    clock = λ m. refl;
    read_byte = λ m at. refl;
    read_next = λ m at. refl;
    read_items = λ m at. sym (append-nil m.records);
    write_next = λ m at value. refl;
    write_items = λ m at value. refl;
    pass_next = λ m cycles. pass_next m cycles (crosses_sample m.clock cycles);
    pass_items = λ m cycles. pass_records m cycles (crosses_sample m.clock cycles);
  }

  frames_of_pass : (m : Machine S) (cycles : ℕ) (b : Bool) → crosses_sample m.clock cycles ≡ b → cycles ≤ CYCLES_PER_SAMPLE
      → length (machine_after_pass m cycles (if b then after_sample chip m else m)).frames + m.clock / CYCLES_PER_SAMPLE
      ≡ length m.frames + (m.clock + cycles) / CYCLES_PER_SAMPLE
  frames_of_pass m cycles true crosses few =
      let one = length-append m.frames (after_sample chip (drained_machine m)).frames in
      let more : m.clock / CYCLES_PER_SAMPLE < (m.clock + cycles) / CYCLES_PER_SAMPLE = grind (arith, nat_tests) in
      omega arith
  frames_of_pass m cycles false crosses few =
      let none : (m.clock + cycles) / CYCLES_PER_SAMPLE ≤ m.clock / CYCLES_PER_SAMPLE = grind (arith, nat_tests) in
      omega arith

  pub frame_each : IsFrameEach (lock_step chip) (λ m. m.frames)
  frame_each = record {
    read_frames = λ m at. refl;
    write_frames = λ m at value. refl;
    pass_frames = λ m cycles few. frames_of_pass m cycles (crosses_sample m.clock cycles) refl few;
  }

  all_counted : (due new_due : ℕ) → due ≤ new_due → CountsOn due 0 (count_after 0 due) new_due 0 (count_after 0 new_due)
  all_counted due new_due later = record { rises = omega arith; counted = λ fits. omega arith }

  pub counting : IsCounting (lock_step chip) lock_step_emits
  counting = record {
    read_counts = λ m at. all_counted (m.clock / CYCLES_PER_SAMPLE) (m.clock / CYCLES_PER_SAMPLE) (omega arith);
    write_counts = λ m at value. all_counted (m.clock / CYCLES_PER_SAMPLE) (m.clock / CYCLES_PER_SAMPLE) (omega arith);
    pass_counts = λ m cycles few. all_counted (m.clock / CYCLES_PER_SAMPLE) ((m.clock + cycles) / CYCLES_PER_SAMPLE) (omega arith);
  }

  pub beside : IsBeside (lock_step_emits {S = S})
  beside = record { at_rest = λ m. refl; pending = λ m. refl; total = λ m. refl }
