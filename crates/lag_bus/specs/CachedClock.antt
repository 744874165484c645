-- A bus with a cached clock, while the processor runs on it: its clock and the number of its calls are kept beside it.
use Rattle.std.specs.Prelude.{◌≤◌, ◌<◌, ◌⊎◌, ℕ, ◌+◌, ◌-◌, ◌*◌, ◌/◌}
use Rattle.spc700_exec.specs.Bus.{BusMeaning, max_calls}
use Rattle.ports_timers.specs.Io.{after_ticks_of}
use Rattle.chip_form.specs.Limits.{max_samples_of_batch, max_samples_of_chip}
use Rattle.chip_form.specs.ChipMeaning.{ChipMeaning}
use Rattle.lock_step.specs.LockStep.{samples_due}
use Rattle.lag_bus.specs.Lagging.{Lagging}
use Rattle.lag_bus.specs.Deferred.{AreWritesWithin, AreReadsWithin}
use Rattle.lag_bus.specs.Ready.{NoneIsReady}
use Rattle.lag_bus.specs.IdleCycles.{samples_between, with_fallen}
use Rattle.spc700_exec.specs.declared.bus.TheConstants.{CYCLES_PER_SAMPLE}

-- the samples that fall due up to a later moment of the clock
abbrev pub fallen_at : {S : Type 0} → (clock : ℕ) → Lagging S → ℕ
fallen_at clock bus = samples_between bus.machine.clock clock

-- the bus at a later moment of the clock with so many calls: the timers ticked, and the samples that fell due are pending
abbrev pub caught_up : {S : Type 0} → ChipMeaning S → (clock calls : ℕ) → Lagging S → Lagging S
caught_up chip clock calls bus =
    with_fallen chip bus (fallen_at clock bus) clock (after_ticks_of bus.machine.io bus.machine.clock (clock - bus.machine.clock)) calls

-- samples to come write and read where the book's reach says
abbrev pub WritesWithin : {S : Type 0} → ChipMeaning S → Lagging S → Type 0
WritesWithin chip bus = AreWritesWithin chip bus.book.reach bus.book.pending (samples_due bus.machine) bus.machine.chip bus.machine.memory

abbrev pub ReadsWithin : {S : Type 0} → ChipMeaning S → Lagging S → Type 0
ReadsWithin chip bus = AreReadsWithin chip bus.book.reach bus.book.pending (samples_due bus.machine) bus.machine.chip bus.machine.memory

-- nothing is to be handed over but what waits for pending samples
abbrev pub IsDrained : {S : Type 0} → Lagging S → Type 0
IsDrained bus = NoneIsReady bus.book.pending bus.chip_sample bus.machine.frames bus.machine.records

-- The bus is behind such a moment, at which so many calls were made: fewer samples are pending there than one batch has at most. Its lists
-- have room for those that fell due: each had a call of its own, or all that can be handed over had been.
pub record IsBehind {S : Type 0} (clock calls : ℕ) (bus : Lagging S) : Type 0 where
  pub earlier : bus.machine.clock ≤ clock
  pub free : bus.book.pending + fallen_at clock bus < max_samples_of_batch
  pub counted : (bus.machine.calls + fallen_at clock bus ≤ calls) ⊎ IsDrained bus
  pub few : calls ≤ max_calls
  pub fits : clock / CYCLES_PER_SAMPLE ≤ max_samples_of_chip

-- It may be left behind up to such a moment: before it, fewer samples are pending than one batch has at most, and the run isn't at its end.
pub record MayFallBehind {S : Type 0} (until samples : ℕ) (bus : Lagging S) : Type 0 where
  pub free : bus.book.pending + fallen_at (until - 1) bus < max_samples_of_batch
  pub before_end : until ≤ CYCLES_PER_SAMPLE * samples

-- a bus in hand, which one it is, and the samples of the run that it is in hand for
pub record CachedClock (B : Type 0) : Type 0 where
  pub name : ℕ
  pub samples : ℕ
  pub bus : B

-- the calls are those of the bus, and it stays the same one, for the same run
abbrev pub cached : {B : Type 0} → BusMeaning B → BusMeaning (CachedClock B)
cached bus = record {
  read = λ r at. ((bus.read r.bus at).0, record r { bus = (bus.read r.bus at).1 });
  write = λ r at value. record r { bus = bus.write r.bus at value };
  pass = λ r cycles. record r { bus = bus.pass r.bus cycles };
  calls = λ r. bus.calls r.bus;
  clock = λ r. bus.clock r.bus;
  due = λ r. bus.due r.bus;
}
