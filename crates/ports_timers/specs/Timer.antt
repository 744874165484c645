-- The timers. An enabled timer counts its ticks up to its target; a target of 0 means 256.
use Rattle.std.specs.Prelude.{ℕ, zero, suc, ◌+◌, ◌-◌, ◌/◌, ◌%◌, ◌==◌, Bool, if◌then◌else◌}
use Rattle.ports_timers.specs.declared.timer.Timer.{Timer}

-- a timer after a tick
abbrev pub after_tick : Timer → Timer
after_tick timer =
    let inner = (timer.inner + 1) % 256 in
    if inner == timer.target
    then record timer { inner = 0; output = (timer.output + 1) % 16 }
    else record timer { inner = inner }

-- a timer after n ticks
unfoldable pub after_ticks : ℕ → Timer → Timer
after_ticks zero timer = timer
after_ticks (suc n) timer = after_tick (after_ticks n timer)

-- the ticks as the clock goes on by some cycles: the multiples of the period that it reaches or passes
abbrev pub tick_count : (period clock cycles : ℕ) → ℕ
tick_count period clock cycles = (clock + cycles) / period - clock / period

-- a timer after some cycles, in which it counts only while it is enabled
abbrev pub after_cycles : (enabled : Bool) → (period clock cycles : ℕ) → Timer → Timer
after_cycles enabled period clock cycles timer =
    if enabled then after_ticks (tick_count period clock cycles) timer else timer

-- a timer with both counters at 0
abbrev pub restarted_timer : Timer → Timer
restarted_timer timer = record timer { inner = 0; output = 0 }

-- a timer after its output counter was read
abbrev pub after_output_read : Timer → Timer
after_output_read timer = record timer { output = 0 }
