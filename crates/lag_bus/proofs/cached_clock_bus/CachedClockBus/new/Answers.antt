use Rattle.std.proofs.Common.{◌≡◌, ◌-◌, ◌∙◌, arith}
use Rattle.lag_bus.specs.CachedClock.{caught_up}
use Rattle.lag_bus.proofs.PassesInHand.{caught_up-none}
use Rattle.lag_bus.proofs.cached_clock_bus.CachedClockBus.new.Goals as goal

pub returns-clause-bus : goal.returns-clause-bus
returns-clause-bus g c =
    let bus = g.B.DeferredBus.shows c.args.bus.now in
    let until = c.moment_of-until.result in
    let now = c.clock-clock.ensures.clock in
    let later = c.moment_of-until.ensures.clock in
    let moment : until - (until - c.clock-clock.result) ≡ bus.machine.clock = omega arith in
    (λ i. caught_up g.B.C.Chip.meaning (moment i) (c.calls-calls.ensures.calls i) bus)
    ∙ caught_up-none g.B.C.Chip.meaning bus c.clock-clock.ensures.book
