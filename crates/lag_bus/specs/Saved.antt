-- What is saved of a bus beside its memory, and a bus once that is loaded.
use Rattle.std.specs.Prelude.{◌≡◌, ◌≤◌, ℕ, ◌/◌, List, []}
use Rattle.chip_form.specs.Limits.{max_samples_of_chip}
use Rattle.chip_form.specs.ChipMeaning.{ChipMeaning}
use Rattle.chip_form.specs.ChipSaving.{ChipSaving}
use Rattle.lock_step.specs.Machine.{Machine}
use Rattle.lock_step.specs.LockStep.{samples_due}
use Rattle.lag_bus.specs.declared.saved.BusState.{BusState}
use Rattle.lag_bus.specs.Book.{book_after_load}
use Rattle.lag_bus.specs.Lagging.{Lagging, with_book}
use Rattle.spc700_exec.specs.declared.bus.TheConstants.{CYCLES_PER_SAMPLE}

-- what is saved of a machine
abbrev pub saved_bus : {S V : Type 0} → ChipSaving S V → Machine S → BusState V
saved_bus saving m = record { io = m.io; clock = m.clock; chip = saving.saved m.chip (samples_due m) }

-- What can be loaded, as all that is saved: the clock stands before the chip's next sample, and the chip may still make it.
pub record CanBeLoaded {S V : Type 0} (saving : ChipSaving S V) (saved : BusState V) : Type 0 where
  pub number : saved.clock / CYCLES_PER_SAMPLE ≡ saving.number saved.chip
  pub few : saved.clock / CYCLES_PER_SAMPLE ≤ max_samples_of_chip

-- A machine once what was saved is loaded over a memory: its mask stays, and the fixed part of its chip. Nothing is emitted.
abbrev pub loaded_machine : {S V : Type 0} → ChipSaving S V → Machine S → BusState V → (memory : List ℕ) → Machine S
loaded_machine saving m saved memory = record m {
  memory = memory;
  io = saved.io;
  chip = saving.loaded m.chip saved.chip;
  clock = saved.clock;
  frames = [];
  records = [];
  calls = 0;
}

-- and with it the flush statistics, whose counts stay
abbrev pub loaded_lagging : {S V : Type 0} → ChipMeaning S → ChipSaving S V → Lagging S → BusState V → (memory : List ℕ) → Lagging S
loaded_lagging chip saving bus saved memory =
    let machine = loaded_machine saving bus.machine saved memory in
    with_book machine (book_after_load chip machine bus.book)
