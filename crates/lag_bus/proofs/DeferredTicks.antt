-- Ticks that are deferred are those of the cycles since.
use Rattle.std.proofs.Common.{◌≡◌, ℕ, ◌+◌, ◌-◌, ◌≤◌, ap, ◌∙◌, arith}
use Rattle.ports_timers.specs.declared.io.Io.{Io}
use Rattle.ports_timers.specs.Io.{after_ticks_of}
use Rattle.ports_timers.proofs.Ticks.{after_ticks_of-then, after_ticks_of-none}

pub no_ticks : (io : Io) (clock : ℕ) → after_ticks_of io clock (clock - clock) ≡ io
no_ticks io clock =
    let none : clock - clock ≡ 0 = omega arith in
    ap (λ (cycles : ℕ). after_ticks_of io clock cycles) none ∙ after_ticks_of-none io clock

-- the ticks of the cycles since, and of more
pub ticks_to_come : (io : Io) (ticked clock cycles : ℕ) → ticked ≤ clock
    → after_ticks_of io ticked (clock + cycles - ticked) ≡ after_ticks_of (after_ticks_of io ticked (clock - ticked)) clock cycles
ticks_to_come io ticked clock cycles before =
    let all : clock + cycles - ticked ≡ clock - ticked + cycles = omega arith in
    let moment : ticked + (clock - ticked) ≡ clock = omega arith in
    ap (λ (n : ℕ). after_ticks_of io ticked n) all
    ∙ after_ticks_of-then io ticked (clock - ticked) cycles
    ∙ ap (λ (n : ℕ). after_ticks_of (after_ticks_of io ticked (clock - ticked)) n cycles) moment

-- the ticks up to a later moment of the clock
pub ticks_between : (io : Io) (ticked clock later : ℕ) → ticked ≤ clock → clock ≤ later
    → after_ticks_of io ticked (later - ticked) ≡ after_ticks_of (after_ticks_of io ticked (clock - ticked)) clock (later - clock)
ticks_between io ticked clock later before after =
    let all : later ≡ clock + (later - clock) = omega arith in
    ap (λ (n : ℕ). after_ticks_of io ticked (n - ticked)) all ∙ ticks_to_come io ticked clock (later - clock) before
