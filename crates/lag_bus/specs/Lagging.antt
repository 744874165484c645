-- The machine in lock step with its flush statistics beside it. They read the machine and never change it.
use Rattle.std.specs.Prelude.{◌≡◌, ◌<◌, ◌≤◌, ℕ, ◌-◌, ◌^◌, ◌==◌, if◌then◌else◌}
use Rattle.spc700_exec.specs.Bus.{BusMeaning}
use Rattle.lag_bus.specs.declared.cause.Cause.TheVariants.{End}
use Rattle.chip_form.specs.ChipMeaning.{ChipMeaning}
use Rattle.lock_step.specs.Machine.{Machine}
use Rattle.lock_step.specs.LockStep.{samples_due, bus_answer, after_bus_read, after_bus_write, after_bus_pass, crosses_sample}
use Rattle.lag_bus.specs.Book.{Book, cause_of_read, cause_of_write, after_cause, with_event, with_sample, settled_book, with_reach_of, opened_lag_book}

pub record Lagging (S : Type 0) : Type 0 where
  -- the machine as it is once the pending samples are made
  pub machine : Machine S
  pub book : Book
  -- of the chip in hand itself, the batches that it made, the number of its next sample, and the samples that it made in all
  pub chip_batches : ℕ
  pub chip_sample : ℕ
  pub chip_total : ℕ

-- A machine with a book. The chip in hand made the batches and samples that the book counts, and its next sample is the first pending one.
abbrev pub with_book : {S : Type 0} → Machine S → Book → Lagging S
with_book machine book = record {
  machine = machine;
  book = book;
  chip_batches = book.counts.batches;
  chip_sample = samples_due machine - book.pending;
  chip_total = book.total;
}

-- the numbers of the chip in hand are those that the book has
pub record HasNumbersOfBook {S : Type 0} (bus : Lagging S) : Type 0 where
  pub batches : bus.chip_batches ≡ bus.book.counts.batches
  pub sample : bus.chip_sample ≡ samples_due bus.machine - bus.book.pending
  pub total : bus.chip_total ≡ bus.book.total

-- what each bus in hand shows of its chip
pub record MatchesBook {S : Type 0} (bus : Lagging S) : Type 0 where
  pub numbers : HasNumbersOfBook bus
  pub pending : bus.book.pending ≤ samples_due bus.machine
  pub fits : bus.chip_total < 2 ^ 64

-- at its opening, over a chip that made so many samples in all
abbrev pub opened_lagging : {S : Type 0} → ChipMeaning S → Machine S → (total : ℕ) → Lagging S
opened_lagging chip machine total = with_book machine (opened_lag_book chip machine total)

-- the book after each of the calls
abbrev pub book_after_read : {S : Type 0} → ChipMeaning S → Lagging S → (at : ℕ) → Book
book_after_read chip bus at =
    let cause = cause_of_read chip bus.book.reach bus.machine.io.dsp_address at in
    after_cause chip cause (after_bus_read bus.machine at) bus.book

abbrev pub book_after_write : {S : Type 0} → ChipMeaning S → Lagging S → (at value : ℕ) → Book
book_after_write chip bus at value =
    let cause = cause_of_write bus.book.reach bus.machine.io.dsp_address at bus.book.pending bus.book.events in
    after_cause chip cause (after_bus_write chip bus.machine at value) (with_event cause at bus.book)

abbrev pub book_after_pass : {S : Type 0} → ChipMeaning S → Lagging S → (cycles : ℕ) → Book
book_after_pass chip bus cycles =
    if crosses_sample bus.machine.clock cycles then with_sample chip (after_bus_pass chip bus.machine cycles) bus.book else bus.book

abbrev pub book_after_settle : {S : Type 0} → ChipMeaning S → Lagging S → Book
book_after_settle chip bus = if bus.book.pending == 0 then bus.book else with_reach_of chip bus.machine (settled_book End bus.book)

-- the bus once its pending samples are made, as it was asked for
abbrev pub after_settle : {S : Type 0} → ChipMeaning S → Lagging S → Lagging S
after_settle chip bus = with_book bus.machine (book_after_settle chip bus)

-- the bus of this machine: it answers and does what the machine in lock step does
abbrev pub lagging : {S : Type 0} → ChipMeaning S → BusMeaning (Lagging S)
lagging chip = record {
  read = λ bus at. (bus_answer chip bus.machine at, with_book (after_bus_read bus.machine at) (book_after_read chip bus at));
  write = λ bus at value. with_book (after_bus_write chip bus.machine at value) (book_after_write chip bus at value);
  pass = λ bus cycles. with_book (after_bus_pass chip bus.machine cycles) (book_after_pass chip bus cycles);
  calls = λ bus. bus.machine.calls;
  clock = λ bus. bus.machine.clock;
  due = λ bus. samples_due bus.machine;
}
