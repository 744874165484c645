-- The clock with the ports and timers, and the calls of the bus.
use Rattle.std.specs.Prelude.{ℕ, ◌+◌}
use Rattle.ports_timers.specs.declared.io.Io.{Io}
use Rattle.ports_timers.specs.Io.{after_ticks_of}

pub record Clocked : Type 0 where
  -- the ports and timers at the clock
  pub io : Io
  pub clock : ℕ
  -- the reads, writes and passes since the last drain
  pub calls : ℕ

-- all three once some cycles have passed
abbrev pub clocked_after : (cycles : ℕ) → Clocked → Clocked
clocked_after cycles c = record c { io = after_ticks_of c.io c.clock cycles; clock = c.clock + cycles }
