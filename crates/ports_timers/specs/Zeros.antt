-- How long output counters that are 0 stay 0.
use Rattle.std.specs.Prelude.{◌≡◌, ◌<◌, ℕ, ◌+◌, ◌-◌, ◌%◌, Bool, not, ◌&&◌, ◌||◌, nat_lt, ◌==◌, if◌then◌else◌, true}
use Rattle.ports_timers.specs.declared.timer.Timer.{Timer}
use Rattle.ports_timers.specs.declared.io.Io.{Io}
use Rattle.ports_timers.specs.Timer.{tick_count, after_cycles}
use Rattle.ports_timers.specs.Io.{is_enabled}

-- the ticks up to the one at which the inner counter comes to the target: 1 to 256
abbrev pub ticks_to_count : Timer → ℕ
ticks_to_count timer = (timer.target + 255 - timer.inner) % 256 + 1

-- whether fewer ticks come in some cycles, so that the output counter stays what it is
abbrev pub stays : (enabled : Bool) → (period clock cycles : ℕ) → Timer → Bool
stays enabled period clock cycles timer = not enabled || nat_lt (tick_count period clock cycles) (ticks_to_count timer)

-- whether a counter that is 0 stays 0 over some cycles; one that isn't 0 may do as it likes
abbrev pub stays_if_0 : (enabled : Bool) → (period clock cycles : ℕ) → Timer → Bool
stays_if_0 enabled period clock cycles timer = not (timer.output == 0) || stays enabled period clock cycles timer

-- whether each of the three counters that is 0 stays 0 over some cycles
abbrev pub zeros_stay : Io → (clock cycles : ℕ) → Bool
zeros_stay io clock cycles =
    stays_if_0 (is_enabled 0 io.control) 128 clock cycles io.timer0
    && stays_if_0 (is_enabled 1 io.control) 128 clock cycles io.timer1
    && stays_if_0 (is_enabled 2 io.control) 16 clock cycles io.timer2

-- whether an address is of no output counter, or of one that is 0
abbrev pub counter_is_0 : Io → (at : ℕ) → Bool
counter_is_0 io at =
    if at == 0xFD then io.timer0.output == 0
    else if at == 0xFE then io.timer1.output == 0
    else if at == 0xFF then io.timer2.output == 0
    else true

-- the numbers of a timer are bytes
pub record IsTimer (timer : Timer) : Type 0 where
  pub target : timer.target < 256
  pub inner : timer.inner < 256

-- a timer whose count doesn't come in some cycles keeps its output counter
abbrev pub KeepsOutput : (enabled : Bool) → (period clock cycles : ℕ) → Timer → Type 0
KeepsOutput enabled period clock cycles timer =
    stays enabled period clock cycles timer ≡ true → (after_cycles enabled period clock cycles timer).output ≡ timer.output

pub record AreTimers (io : Io) : Type 0 where
  pub timer0 : IsTimer io.timer0
  pub timer1 : IsTimer io.timer1
  pub timer2 : IsTimer io.timer2
