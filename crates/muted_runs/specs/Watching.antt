-- The machine in lock step, with a note whether its program read a register of the chip that is hidden.
use Rattle.std.specs.Prelude.{◌≡◌, ℕ, ◌%◌, ◌==◌, List, [], ◌∷◌, Bool, true, false, ◌&&◌, ◌||◌}
use Rattle.spc700_exec.specs.Bus.{BusMeaning}
use Rattle.chip_form.specs.ChipMeaning.{ChipMeaning}
use Rattle.lock_step.specs.Machine.{Machine, opened_machine}
use Rattle.lock_step.specs.LockStep.{lock_step}
use Rattle.render_core.specs.MachineRun.{Whole, after_run}

pub record Watched (S : Type 0) : Type 0 where
  pub machine : Machine S
  -- whether a hidden register was read so far
  pub noted : Bool

-- whether a read of an address is one of a hidden register: of F3h, where the DSP address shows it
abbrev pub reads_hidden : {S : Type 0} → (hidden : (address : ℕ) → Bool) → Machine S → (at : ℕ) → Bool
reads_hidden hidden m at = at == 0xF3 && hidden (m.io.dsp_address % 0x80)

-- the bus of the machine in lock step, watched
abbrev pub watched : {S : Type 0} → ChipMeaning S → (hidden : (address : ℕ) → Bool) → BusMeaning (Watched S)
watched chip hidden =
    let bus = lock_step chip in
    record {
      read = λ w at.
          let read = bus.read w.machine at in
          (read.0, record { machine = read.1; noted = w.noted || reads_hidden hidden w.machine at });
      write = λ w at value. record w { machine = bus.write w.machine at value };
      pass = λ w cycles. record w { machine = bus.pass w.machine cycles };
      calls = λ w. bus.calls w.machine;
      clock = λ w. bus.clock w.machine;
      due = λ w. bus.due w.machine;
    }

-- a whole machine, watched from now on
abbrev pub begun_watching : {S : Type 0} → Whole (Machine S) → Whole (Watched S)
begun_watching w = (w.0, record { machine = w.1; noted = false })

-- whether the program reads a hidden register in a run to so many samples
abbrev pub reads_in_run : {S : Type 0} → ChipMeaning S → (hidden : (address : ℕ) → Bool) → (samples : ℕ) → Whole (Machine S) → Bool
reads_in_run chip hidden samples w = (after_run (watched chip hidden) samples (begun_watching w)).1.noted

-- the machine that a run leaves is that of the run watched
abbrev pub WatchingChangesNothing : {S : Type 0} → ChipMeaning S → Type 0
WatchingChangesNothing {S} chip =
    (hidden : (address : ℕ) → Bool) (samples : ℕ) (w : Whole (Machine S))
    → after_run (lock_step chip) samples w
    ≡ (let seen = after_run (watched chip hidden) samples (begun_watching w) in (seen.0, seen.1.machine))

-- no register is hidden
abbrev pub nothing_hidden : (address : ℕ) → Bool
nothing_hidden address = false

-- A run notes nothing where nothing is hidden.
abbrev pub NotesNothingShown : {S : Type 0} → ChipMeaning S → Type 0
NotesNothingShown {S} chip = (samples : ℕ) (w : Whole (Machine S)) → reads_in_run chip nothing_hidden samples w ≡ false

-- the machine before the last instruction of its first sample, which moves a byte of page 0 to A, with this DSP address
abbrev pub reading_program : {S : Type 0} → (from dsp_address : ℕ) → (chip : S) → Whole (Machine S)
reading_program from dsp_address chip = (
  record { a = 0; x = 0; y = 0; sp = 0xEF; pc = 0; psw = 0; halted = false },
  record (opened_machine (0xE4 ∷ from ∷ []) (0 ∷ 0 ∷ dsp_address ∷ []) [] chip 0) { clock = 29 },
)

-- the register 10h alone
abbrev pub only_register_10 : (address : ℕ) → Bool
only_register_10 address = address == 0x10

-- Where register 10h is hidden, a program that reads it is noted, one that reads register 11h isn't, and one that reads a port isn't.
pub record NotesReadsAlone {S : Type 0} (chip : ChipMeaning S) : Type 0 where
  pub hidden : (state : S) → reads_in_run chip only_register_10 1 (reading_program 0xF3 0x10 state) ≡ true
  pub shown : (state : S) → reads_in_run chip only_register_10 1 (reading_program 0xF3 0x11 state) ≡ false
  pub port : (state : S) → reads_in_run chip only_register_10 1 (reading_program 0xF4 0x10 state) ≡ false
