-- Cycles that bring no tick.
use Rattle.std.proofs.Common.{◌≡◌, ℕ, ◌+◌, ◌%◌, ◌<◌, Bool, true, false, refl, sym, ap, arith}
use Rattle.ports_timers.specs.declared.timer.Timer.{Timer}
use Rattle.ports_timers.specs.declared.io.Io.{Io}
use Rattle.ports_timers.specs.Timer.{after_ticks, after_cycles, tick_count}
use Rattle.ports_timers.specs.Io.{is_enabled, after_ticks_of}

after_cycles-idle : (enabled : Bool) (period clock cycles : ℕ) (timer : Timer) → tick_count period clock cycles ≡ 0 → timer ≡ after_cycles enabled period clock cycles timer
unfolding after_ticks
after_cycles-idle true period clock cycles timer none = ap (λ (n : ℕ). after_ticks n timer) (sym none)
after_cycles-idle false period clock cycles timer none = refl

-- cycles that reach no multiple of 16 leave all timers
pub after_ticks_of-idle : (io : Io) (clock cycles : ℕ) → clock % 16 + cycles < 16 → io ≡ after_ticks_of io clock cycles
after_ticks_of-idle io clock cycles idle =
    let slow : tick_count 128 clock cycles ≡ 0 = omega arith in
    let fast : tick_count 16 clock cycles ≡ 0 = omega arith in
    λ i. record io {
      timer0 = after_cycles-idle (is_enabled 0 io.control) 128 clock cycles io.timer0 slow i;
      timer1 = after_cycles-idle (is_enabled 1 io.control) 128 clock cycles io.timer1 slow i;
      timer2 = after_cycles-idle (is_enabled 2 io.control) 16 clock cycles io.timer2 fast i;
    }
