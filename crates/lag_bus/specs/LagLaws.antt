-- The machine with its flush statistics beside it is a lawful bus, and emits as a bus is to emit.
use Rattle.std.proofs.Common.{◌≡◌, ◌≤◌, ◌+◌, ◌/◌, ◌==◌, ℕ, Bool, true, false, refl, arith}
use Rattle.std.specs.Prelude.{Option, Some, None, if◌then◌else◌}
use Rattle.std.proofs.lemmas.Bool.Decides.{nat_tests}
use Rattle.spc700_exec.specs.Bus.{IsLawful}
use Rattle.spc700_exec.specs.Emitting.{IsEmitting}
use Rattle.lag_bus.specs.declared.cause.Cause.{Cause}
use Rattle.lag_bus.specs.declared.cause.Cause.TheVariants.{Full, End}
use Rattle.chip_form.specs.Samples.{count_after}
use Rattle.chip_form.specs.ChipMeaning.{ChipMeaning}
use Rattle.lock_step.specs.Machine.{Machine}
use Rattle.lock_step.specs.LockStep.{lock_step, crosses_sample, after_bus_read, after_bus_write, after_bus_pass}
use Rattle.lag_bus.specs.Book.{Book, cause_of_read, cause_of_write, settled_book, with_reach_of, after_cause, with_event, with_sample}
use Rattle.lock_step.specs.Emits.{IsFrameEach, CountsOn, IsCountedOn, IsCounting, IsBeside}
use Rattle.lock_step.proofs.ChipCounts.{counts_on_none}
use Rattle.lock_step.specs.LockStepEmits.{drained_machine}
use Rattle.lock_step.specs.LockStepLaws as plain
use Rattle.lag_bus.specs.Lagging.{Lagging, lagging, with_book, after_settle}
use Rattle.lag_bus.specs.LagEmits.{without_items, lag_emits}
use Rattle.spc700_exec.specs.declared.bus.TheConstants.{CYCLES_PER_SAMPLE}

module _ {S : Type 0} (chip : ChipMeaning S) where
  pub lagging-lawful : IsLawful (lagging chip)
  lagging-lawful = record {
    read_calls = λ _ _. refl;
    read_clock = λ _ _. refl;
    write_calls = λ _ _ _. refl;
    write_clock = λ _ _ _. refl;
    pass_calls = λ _ _. refl;
    pass_clock = λ _ _. refl;
    samples = λ _. refl;
  }

  frames_law : IsEmitting (lock_step chip) drained_machine (λ m. m.frames)
  frames_law = plain.emits_frames chip

  records_law : IsEmitting (lock_step chip) drained_machine (λ m. m.records)
  records_law = plain.emits_records chip

  -- the book depends on nothing that was emitted
  pass_next : (bus : Lagging S) (cycles : ℕ) (b : Bool) → crosses_sample bus.machine.clock cycles ≡ b
      → without_items ((lagging chip).pass bus cycles) ≡ without_items ((lagging chip).pass (without_items bus) cycles)
  pass_next bus cycles true crosses = rw crosses refl
  pass_next bus cycles false crosses = rw crosses refl

  pub next_book : (cause : Option Cause) (m n : Machine S) (book : Book) → m.chip ≡ n.chip → m.memory ≡ n.memory
      → after_cause chip cause m book ≡ after_cause chip cause n book
  next_book None m n book same_chip same_memory = refl
  next_book (Some cause) m n book same_chip same_memory = rw (same_chip, same_memory) refl

  read_next : (bus : Lagging S) (at : ℕ) → without_items ((lagging chip).read bus at).1 ≡ without_items ((lagging chip).read (without_items bus) at).1
  read_next bus at =
      let cause = cause_of_read chip bus.book.reach bus.machine.io.dsp_address at in
      let same = next_book cause (after_bus_read bus.machine at) (after_bus_read (drained_machine bus.machine) at) bus.book refl refl in
      λ i. with_book (drained_machine (after_bus_read bus.machine at)) (same i)

  write_next : (bus : Lagging S) (at value : ℕ)
      → without_items ((lagging chip).write bus at value) ≡ without_items ((lagging chip).write (without_items bus) at value)
  write_next bus at value =
      let cause = cause_of_write bus.book.reach bus.machine.io.dsp_address at bus.book.pending bus.book.events in
      let after = after_bus_write chip bus.machine at value in
      let drained = after_bus_write chip (drained_machine bus.machine) at value in
      let same = next_book cause after drained (with_event cause at bus.book) refl refl in
      λ i. with_book (drained_machine (after_bus_write chip bus.machine at value)) (same i)

  pub emits_frames : IsEmitting (lagging chip) without_items (λ bus. bus.machine.frames)
  emits_frames = record {
    again = λ bus. refl;
    none = λ bus. refl;
    clock = λ bus. refl;
    read_byte = λ bus at. refl;
    read_next = read_next;
    read_items = λ bus at. frames_law.read_items bus.machine at;
    write_next = write_next;
    write_items = λ bus at value. frames_law.write_items bus.machine at value;
    pass_next = λ bus cycles. pass_next bus cycles (crosses_sample bus.machine.clock cycles) refl;
    pass_items = λ bus cycles. frames_law.pass_items bus.machine cycles;
  }

  pub emits_records : IsEmitting (lagging chip) without_items (λ bus. bus.machine.records)
  emits_records = record {
    again = λ bus. refl;
    none = λ bus. refl;
    clock = λ bus. refl;
    read_byte = λ bus at. refl;
    read_next = read_next;
    read_items = λ bus at. records_law.read_items bus.machine at;
    write_next = write_next;
    write_items = λ bus at value. records_law.write_items bus.machine at value;
    pass_next = λ bus cycles. pass_next bus cycles (crosses_sample bus.machine.clock cycles) refl;
    pass_items = λ bus cycles. records_law.pass_items bus.machine cycles;
  }

  pub frame_each : IsFrameEach (lagging chip) (λ bus. bus.machine.frames)
  frame_each = record {
    read_frames = λ bus at. refl;
    write_frames = λ bus at value. refl;
    pass_frames = λ bus cycles few. (plain.frame_each chip).pass_frames bus.machine cycles few;
  }

  -- a settling, where k samples are due
  settled : (k p t : ℕ) (b : Bool) → (p == 0) ≡ b → CountsOn k p t k 0 (if b then t else count_after t p)
  settled k p t true is = let none : p ≡ 0 = grind (arith, nat_tests) in record { rises = omega arith; counted = λ fits. omega arith }
  settled k p t false is = record { rises = omega arith; counted = λ fits. omega arith }

  counts-cause : (k : ℕ) (cause : Option Cause) (m : Machine S) (book : Book)
      → CountsOn k book.pending book.total k (after_cause chip cause m book).pending (after_cause chip cause m book).total
  counts-cause k None m book = counts_on_none k book.pending book.total
  counts-cause k (Some cause) m book = settled k book.pending book.total (book.pending == 0) refl

  counts-event : (k : ℕ) (book : Book) (b : Bool)
      → (let new = if b then record book { events = book.events + 1 } else book in CountsOn k book.pending book.total k new.pending new.total)
  counts-event k book true = counts_on_none k book.pending book.total
  counts-event k book false = counts_on_none k book.pending book.total

  counts-write : (k : ℕ) (cause : Option Cause) (m : Machine S) (at : ℕ) (book : Book)
      → (let new = after_cause chip cause m (with_event cause at book) in CountsOn k book.pending book.total k new.pending new.total)
  counts-write k None m at book = counts-event k book _
  counts-write k (Some cause) m at book = settled k book.pending book.total (book.pending == 0) refl

  -- one sample more that is pending, and all of them made where they are as many as may be
  counts-full : (k : ℕ) (m : Machine S) (more : Book) (b : Bool)
      → (let new = if b then with_reach_of chip m (settled_book Full more) else more in CountsOn k more.pending more.total k new.pending new.total)
  counts-full k m more true = settled k more.pending more.total (more.pending == 0) refl
  counts-full k m more false = counts_on_none k more.pending more.total

  one_more : {k p t j q u : ℕ} → j ≡ k + 1 → CountsOn k (p + 1) t k q u → CountsOn k p t j q u
  one_more is counts = let first = counts.rises in record { rises = omega arith; counted = λ fits. let second = counts.counted fits in omega arith }

  counts-pass : (bus : Lagging S) (cycles : ℕ) (m : Machine S) (b : Bool) → crosses_sample bus.machine.clock cycles ≡ b → cycles ≤ CYCLES_PER_SAMPLE
      → (let new = if b then with_sample chip m bus.book else bus.book in
      let due = bus.machine.clock / CYCLES_PER_SAMPLE in
      let next = (bus.machine.clock + cycles) / CYCLES_PER_SAMPLE in
      CountsOn due bus.book.pending bus.book.total next new.pending new.total)
  counts-pass bus cycles m true is few =
      let next : (bus.machine.clock + cycles) / CYCLES_PER_SAMPLE ≡ bus.machine.clock / CYCLES_PER_SAMPLE + 1 = grind (arith, nat_tests) in
      one_more next (counts-full (bus.machine.clock / CYCLES_PER_SAMPLE) m (record bus.book { pending = bus.book.pending + 1 }) _)
  counts-pass bus cycles m false is few =
      let same : (bus.machine.clock + cycles) / CYCLES_PER_SAMPLE ≡ bus.machine.clock / CYCLES_PER_SAMPLE = grind (arith, nat_tests) in
      record { rises = omega arith; counted = λ fits. omega arith }

  pub counting : IsCounting (lagging chip) (lag_emits chip)
  counting = record {
    read_counts = λ bus at.
        let cause = cause_of_read chip bus.book.reach bus.machine.io.dsp_address at in
        counts-cause (bus.machine.clock / CYCLES_PER_SAMPLE) cause (after_bus_read bus.machine at) bus.book;
    write_counts = λ bus at value.
        let cause = cause_of_write bus.book.reach bus.machine.io.dsp_address at bus.book.pending bus.book.events in
        counts-write (bus.machine.clock / CYCLES_PER_SAMPLE) cause (after_bus_write chip bus.machine at value) at bus.book;
    pass_counts = λ bus cycles few. counts-pass bus cycles (after_bus_pass chip bus.machine cycles) (crosses_sample bus.machine.clock cycles) refl few;
  }

  pub beside : IsBeside (lag_emits chip)
  beside = record { at_rest = λ bus. refl; pending = λ bus. refl; total = λ bus. refl }

  -- a settling that was asked for
  counts-asked : (k : ℕ) (m : Machine S) (book : Book) (b : Bool)
      → (let new = if b then book else with_reach_of chip m (settled_book End book) in CountsOn k book.pending book.total k new.pending new.total)
  counts-asked k m book true = counts_on_none k book.pending book.total
  counts-asked k m book false = settled k book.pending book.total (book.pending == 0) refl

  pub counts-settle : (bus : Lagging S) → IsCountedOn (lagging chip) (lag_emits chip) bus (after_settle chip bus)
  counts-settle bus = counts-asked (bus.machine.clock / CYCLES_PER_SAMPLE) bus.machine bus.book (bus.book.pending == 0)
