-- What contracts see of a bus: three functions on the bus as plain data, and three numbers of it.
use Rattle.std.specs.Prelude.{◌≡◌, ℕ, ◌+◌, ◌/◌}
use Rattle.num_fix.specs.Limits.{max_sample_number}
use Rattle.spc700_exec.specs.declared.bus.TheConstants.{CYCLES_PER_SAMPLE, MAX_CALLS, MAX_CALLS_BEFORE_STEP}

-- before a pass, fewer samples than this are due
abbrev pub max_samples_of_bus : ℕ
max_samples_of_bus = max_sample_number

-- the calls between two drains at most, and those before a step
abbrev pub max_calls : ℕ
max_calls = MAX_CALLS

abbrev pub max_calls_before_step : ℕ
max_calls_before_step = MAX_CALLS_BEFORE_STEP

-- the calls of one step at most
abbrev pub max_calls_of_step : ℕ
max_calls_of_step = 13

pub record BusMeaning (S : Type 0) : Type 0 where
  -- a read of an address: the byte, and the bus after it
  pub read : S → ℕ → ℕ × S
  -- a write of a byte to an address
  pub write : S → ℕ → ℕ → S
  -- the passing of cycles
  pub pass : S → ℕ → S
  -- the calls since the last drain, the clock, and the samples that are due
  pub calls : S → ℕ
  pub clock : S → ℕ
  pub due : S → ℕ

-- the laws that each bus keeps
pub record IsLawful {S : Type 0} (bus : BusMeaning S) : Type 0 where
  -- a read or a write adds 1 to the calls and leaves the clock
  pub read_calls : (s : S) (at : ℕ) → bus.calls (bus.read s at).1 ≡ bus.calls s + 1
  pub read_clock : (s : S) (at : ℕ) → bus.clock (bus.read s at).1 ≡ bus.clock s
  pub write_calls : (s : S) (at value : ℕ) → bus.calls (bus.write s at value) ≡ bus.calls s + 1
  pub write_clock : (s : S) (at value : ℕ) → bus.clock (bus.write s at value) ≡ bus.clock s
  -- a pass of cycles adds 1 to the calls and the cycles to the clock
  pub pass_calls : (s : S) (cycles : ℕ) → bus.calls (bus.pass s cycles) ≡ bus.calls s + 1
  pub pass_clock : (s : S) (cycles : ℕ) → bus.clock (bus.pass s cycles) ≡ bus.clock s + cycles
  -- a sample more is due each time that so many cycles have passed
  pub samples : (s : S) → bus.due s ≡ bus.clock s / CYCLES_PER_SAMPLE

-- an access of an instruction passes one cycle before it acts: the byte that a read gives, and the bus after a read and
-- after a write
abbrev pub byte_read : {S : Type 0} → BusMeaning S → (at : ℕ) → S → ℕ
byte_read bus at s = (bus.read (bus.pass s 1) at).0

abbrev pub after_read : {S : Type 0} → BusMeaning S → (at : ℕ) → S → S
after_read bus at s = (bus.read (bus.pass s 1) at).1

abbrev pub after_write : {S : Type 0} → BusMeaning S → (at value : ℕ) → S → S
after_write bus at value s = bus.write (bus.pass s 1) at value
