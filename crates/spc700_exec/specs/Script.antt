-- A script: the accesses of an instruction in order, each chosen by the bytes that were read before it, and its end.
use Rattle.std.specs.Prelude.{ℕ, ◌+◌, ◌-◌, ◌%◌, nat_lt, if◌then◌else◌}
use Rattle.spc700_exec.specs.declared.cpu.Cpu.{Cpu}
use Rattle.spc700_exec.specs.Bus.{BusMeaning, byte_read, after_read, after_write}
use Rattle.spc700_exec.specs.declared.bus.TheConstants.{CYCLES_PER_SAMPLE}

-- the cycles of an instruction: a number, or those from its start to the next sample
pub data Time : Type 0 where
  Cycles : ℕ → Time
  ToSample : Time

pub data Script : Type 0 where
  -- a read of an address, and what follows for each byte that it may give
  Read : ℕ → (ℕ → Script) → Script
  -- a write of a byte to an address, and what follows
  Write : ℕ → ℕ → Script → Script
  -- the registers after the instruction, and its cycles
  End : Cpu → Time → Script

-- the number of cycles of an instruction that began at a moment of the clock
abbrev pub cycles_at : (start : ℕ) → Time → ℕ
cycles_at start (Cycles n) = n
cycles_at start ToSample = CYCLES_PER_SAMPLE - start % CYCLES_PER_SAMPLE

-- the bus once the rest of an instruction's cycles has passed, if there is any
abbrev pub after_rest : {S : Type 0} → BusMeaning S → (cycles made : ℕ) → S → S
after_rest bus cycles made s = if nat_lt made cycles then bus.pass s (cycles - made) else s

-- the registers and the bus after a script that began at a moment of the clock and made some accesses already: each
-- access passes a cycle and then acts, in order; at the end the rest of the cycles passes
abbrev pub outcome : {S : Type 0} → BusMeaning S → (start made : ℕ) → Script → S → Cpu × S
outcome bus start made (Read at next) s = outcome bus start (made + 1) (next (byte_read bus at s)) (after_read bus at s)
outcome bus start made (Write at value next) s = outcome bus start (made + 1) next (after_write bus at value s)
outcome bus start made (End cpu time) s = (cpu, after_rest bus (cycles_at start time) made s)
