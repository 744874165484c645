-- Lists of calls of a bus, and that the bus that lags has the machine in lock step after each of them.
use Rattle.std.specs.Prelude.{◌≡◌, ◌≤◌, ℕ, ◌-◌, List, [], ◌∷◌, ◌++◌, length, drop}
use Rattle.trace_form.specs.declared.record.Record.{Record}
use Rattle.spc700_exec.specs.Bus.{BusMeaning}
use Rattle.chip_form.specs.ChipMeaning.{ChipMeaning}
use Rattle.chip_form.specs.ChipSaving.{ChipSaving}
use Rattle.lock_step.specs.Machine.{Machine}
use Rattle.lock_step.specs.LockStep.{lock_step}
use Rattle.chip_form.specs.Samples.{count_after}
use Rattle.lag_bus.specs.Lagging.{Lagging, lagging, with_book, after_settle, MatchesBook}
use Rattle.lag_bus.specs.LagEmits.{after_drain}
use Rattle.lag_bus.specs.Ready.{ready_frames}
use Rattle.lag_bus.specs.declared.saved.BusState.{BusState}
use Rattle.lag_bus.specs.Saved.{loaded_machine, loaded_lagging}
use Rattle.spc700_exec.specs.declared.bus.TheConstants.{CYCLES_PER_SAMPLE}

-- a call, of which a drain hands over so many of the frames and records emitted, from the front; V is what is saved of a chip
pub data Call (V : Type 0) : Type 0 where
  Read : (at : ℕ) → Call V
  Write : (at value : ℕ) → Call V
  Pass : (cycles : ℕ) → Call V
  Settle : Call V
  Drain : (frames records : ℕ) → Call V
  Load : BusState V → (memory : List ℕ) → Call V

-- what each call leaves
pub record CallMeaning (V B : Type 0) : Type 0 where
  pub bus : BusMeaning B
  pub settle : B → B
  pub drain : (frames records : ℕ) → B → B
  pub load : BusState V → (memory : List ℕ) → B → B

-- the machine in lock step: it has nothing to settle, and a drain begins its calls anew
abbrev pub drained_from_front : {S : Type 0} → (frames records : ℕ) → Machine S → Machine S
drained_from_front frames records m = record m { frames = drop frames m.frames; records = drop records m.records; calls = 0 }

abbrev pub lock_step_calls : {S V : Type 0} → ChipMeaning S → ChipSaving S V → CallMeaning V (Machine S)
lock_step_calls chip saving = record {
  bus = lock_step chip;
  settle = λ m. m;
  drain = drained_from_front;
  load = λ saved memory m. loaded_machine saving m saved memory;
}

-- the bus that lags: a drain leaves its book as it is
abbrev pub lagging_calls : {S V : Type 0} → ChipMeaning S → ChipSaving S V → CallMeaning V (Lagging S)
lagging_calls chip saving = record {
  bus = lagging chip;
  settle = after_settle chip;
  drain = λ frames records b. with_book (drained_from_front frames records b.machine) b.book;
  load = λ saved memory b. loaded_lagging chip saving b saved memory;
}

-- the bus after a call
abbrev pub after_call : {V B : Type 0} → CallMeaning V B → Call V → B → B
after_call meaning (Read at) b = (meaning.bus.read b at).1
after_call meaning (Write at value) b = meaning.bus.write b at value
after_call meaning (Pass cycles) b = meaning.bus.pass b cycles
after_call meaning Settle b = meaning.settle b
after_call meaning (Drain frames records) b = meaning.drain frames records b
after_call meaning (Load saved memory) b = meaning.load saved memory b

-- the bus after calls, one after another
abbrev pub after_calls : {V B : Type 0} → CallMeaning V B → List (Call V) → B → B
after_calls meaning [] b = b
after_calls meaning (call ∷ calls) b = after_calls meaning calls (after_call meaning call b)

-- After every list of calls the bus that lags has the machine in lock step: memory, ports, timers, chip, clock, and all that
-- was emitted and not handed over.
abbrev pub HasMachineInLockStep : {S V : Type 0} → ChipMeaning S → ChipSaving S V → Type 0
HasMachineInLockStep {S} {V} chip saving =
    (calls : List (Call V)) (bus : Lagging S)
    → (after_calls (lagging_calls chip saving) calls bus).machine ≡ after_calls (lock_step_calls chip saving) calls bus.machine

-- And a read after them has the answer of that machine.
abbrev pub AnswersInLockStep : {S V : Type 0} → ChipMeaning S → ChipSaving S V → Type 0
AnswersInLockStep {S} {V} chip saving =
    (calls : List (Call V)) (at : ℕ) (bus : Lagging S)
    → ((lagging chip).read (after_calls (lagging_calls chip saving) calls bus) at).0
    ≡ ((lock_step chip).read (after_calls (lock_step_calls chip saving) calls bus.machine) at).0

-- A drain of the bus that lags is such a call, of the frames and records that it hands over: where these are the front of what
-- was emitted, as each bus in hand shows of its drain, the rest stays.
abbrev pub DrainsFromFront : {S V : Type 0} → ChipMeaning S → ChipSaving S V → Type 0
DrainsFromFront {S} {V} chip saving =
    (bus : Lagging S) (records : List Record)
    → bus.machine.records ≡ records ++ (after_drain bus).machine.records
    → after_drain bus ≡ (lagging_calls chip saving).drain (length (ready_frames bus.book.pending bus.machine.frames)) (length records) bus

-- calls without a load, and with passes of at most 32 cycles, as all passes are
abbrev pub LoadNothing : {V : Type 0} → List (Call V) → Type 0
LoadNothing [] = Unit {0}
LoadNothing (Read at ∷ calls) = LoadNothing calls
LoadNothing (Write at value ∷ calls) = LoadNothing calls
LoadNothing (Pass cycles ∷ calls) = (cycles ≤ CYCLES_PER_SAMPLE) × LoadNothing calls
LoadNothing (Settle ∷ calls) = LoadNothing calls
LoadNothing (Drain frames records ∷ calls) = LoadNothing calls
LoadNothing (Load saved memory ∷ calls) = ⊥

-- Over such calls the chip of a bus in hand makes, by its total, as many samples as the number of its next one rises by, up to the end
-- of 64 bits. A load leaves the total.
abbrev pub TotalsSamplesMade : {S V : Type 0} → ChipMeaning S → ChipSaving S V → Type 0
TotalsSamplesMade {S} {V} chip saving =
    (calls : List (Call V)) (bus : Lagging S) → LoadNothing calls → MatchesBook bus
    → let later = after_calls (lagging_calls chip saving) calls bus in
    (bus.chip_sample ≤ later.chip_sample) × (later.chip_total ≡ count_after bus.chip_total (later.chip_sample - bus.chip_sample))
