-- The machine with its flush statistics after cycles in which it is only read.
use Rattle.std.specs.Prelude.{◌≡◌, ◌≤◌, ◌<◌, ℕ, ◌+◌, ◌-◌, ◌*◌, ◌/◌, ◌++◌, Bool, true, not, ◌&&◌, ◌==◌, if◌then◌else◌, Option, Some, None}
use Rattle.std.specs.List.{filter}
use Rattle.chip_form.specs.declared.pages.ReachPages.{ReachPages}
use Rattle.ports_timers.specs.declared.io.Io.{Io}
use Rattle.ports_timers.specs.Io.{after_ticks_of}
use Rattle.chip_form.specs.Samples.{samples, in_mask}
use Rattle.chip_form.specs.ChipMeaning.{ChipMeaning}
use Rattle.lock_step.specs.LockStep.{samples_due, bus_answer}
use Rattle.lag_bus.specs.Book.{may_be_written}
use Rattle.lag_bus.specs.Lagging.{Lagging, lagging, with_book, HasNumbersOfBook}
use Rattle.lag_bus.specs.Deferred.{AreWritesWithin}
use Rattle.chip_form.specs.Limits.{max_samples_of_batch}
use Rattle.ports_timers.specs.Zeros.{counter_is_0, zeros_stay, AreTimers}
use Rattle.idle_loops.specs.ReadOnly.{peek_of_steps, after_n_steps}
use Rattle.spc700_exec.specs.declared.cpu.Cpu.{Cpu}
use Rattle.spc700_exec.specs.declared.bus.TheConstants.{CYCLES_PER_SAMPLE}

-- Whether a read is a peek, so that it has the same answer while cycles pass: it is of no register of the chip, no sample
-- pending or to come writes there, and an output counter that is read is 0.
abbrev pub only_peeks : ReachPages → Io → (at : ℕ) → Bool
only_peeks reach io at = not (at == 0xF3) && not (may_be_written reach at) && counter_is_0 io at

-- the byte that such a read sees
abbrev pub byte_seen : {S : Type 0} → ChipMeaning S → Lagging S → (at : ℕ) → Option ℕ
byte_seen chip bus at = if only_peeks bus.book.reach bus.machine.io at then Some (bus_answer chip bus.machine at) else None

-- the samples that fall due from one moment of the clock to a later one
abbrev pub samples_between : (from to : ℕ) → ℕ
samples_between from to = to / CYCLES_PER_SAMPLE - from / CYCLES_PER_SAMPLE

-- the samples that fall due in some cycles
abbrev pub samples_in : (clock cycles : ℕ) → ℕ
samples_in clock cycles = samples_between clock (clock + cycles)

-- The bus at a later moment of the clock, at which so many samples more are pending: the machine has what they leave and emit, as it always has.
abbrev pub with_fallen : {S : Type 0} → ChipMeaning S → Lagging S → (fallen clock : ℕ) → Io → (calls : ℕ) → Lagging S
with_fallen chip bus fallen clock io calls =
    let m = bus.machine in
    let made = samples chip.one_sample fallen (samples_due m) m.chip m.memory in
    with_book
    (record m {
      memory = made.memory;
      io = io;
      chip = made.state;
      clock = clock;
      frames = m.frames ++ made.frames;
      records = m.records ++ filter (in_mask m.mask) made.records;
      calls = calls;
    })
    (record bus.book { pending = bus.book.pending + fallen })

-- The bus after so many cycles alone, while fewer samples are pending than one batch has at most: the timers ticked, and the samples that fell due
-- are pending.
abbrev pub after_wait : {S : Type 0} → ChipMeaning S → Lagging S → (cycles : ℕ) → Lagging S
after_wait chip bus cycles =
    let m = bus.machine in
    with_fallen chip bus (samples_in m.clock cycles) (m.clock + cycles) (after_ticks_of m.io m.clock cycles) m.calls

-- a bus but for the number of its calls, which nothing depends on but the next drain
abbrev pub without_calls : {S : Type 0} → Lagging S → Lagging S
without_calls bus = record bus { machine = record bus.machine { calls = 0 } }

-- what a bus that lags keeps: its chip made what the book says, and samples that come write where the book's reach says
pub record IsKept {S : Type 0} (chip : ChipMeaning S) (bus : Lagging S) : Type 0 where
  pub numbers : HasNumbersOfBook bus
  pub writes : AreWritesWithin chip bus.book.reach bus.book.pending (samples_due bus.machine) bus.machine.chip bus.machine.memory

-- Over cycles in which no counter that is 0 leaves 0, and at whose end fewer samples are pending than one batch has at most, iterations of
-- steps that only read bring the registers back, and the bus to where their cycles alone bring it, but for the number of its calls.
abbrev pub LeavesCyclesOfIterations : {S : Type 0} → ChipMeaning S → Type 0
LeavesCyclesOfIterations {S} chip =
    (bus : Lagging S) (most iterations steps cycles : ℕ) (cpu : Cpu)
    → IsKept chip bus
    → AreTimers bus.machine.io
    → zeros_stay bus.machine.io bus.machine.clock most ≡ true
    → bus.book.pending + samples_in bus.machine.clock most < max_samples_of_batch
    → peek_of_steps (byte_seen chip bus) steps cpu ≡ Some (cpu, cycles)
    → iterations * cycles ≤ most
    → let there = after_n_steps (lagging chip) (iterations * steps) (cpu, bus) in
    (there.0 ≡ cpu) × (without_calls there.1 ≡ without_calls (after_wait chip bus (iterations * cycles)))
