-- The bus over plain memory: it has no ports and emits nothing.
use Rattle.std.specs.Prelude.{ℕ, ◌+◌, ◌/◌, List}
use Rattle.aram_core.specs.Memory.{byte_at, with_byte}
use Rattle.spc700_exec.specs.Bus.{BusMeaning}
use Rattle.spc700_exec.specs.declared.bus.TheConstants.{CYCLES_PER_SAMPLE}

pub record MemMachine : Type 0 where
  pub memory : List ℕ
  pub clock : ℕ
  -- the calls since it was made or restarted
  pub calls : ℕ

-- a read gives the byte, a write stores it, a pass moves the clock
abbrev pub plain_memory : BusMeaning MemMachine
plain_memory = record {
  read = λ m at. (byte_at m.memory at, record m { calls = m.calls + 1 });
  write = λ m at value. record m { memory = with_byte m.memory at value; calls = m.calls + 1 };
  pass = λ m cycles. record m { clock = m.clock + cycles; calls = m.calls + 1 };
  calls = λ m. m.calls;
  clock = λ m. m.clock;
  due = λ m. m.clock / CYCLES_PER_SAMPLE;
}
