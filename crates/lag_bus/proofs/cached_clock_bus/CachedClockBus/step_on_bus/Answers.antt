use Rattle.std.proofs.Common.{◌≡◌, ◌-◌, ◌∙◌, arith}
use Rattle.lag_bus.specs.CachedClock.{caught_up}
use Rattle.lag_bus.proofs.PassesInHand.{caught_up-none}
use Rattle.lag_bus.proofs.cached_clock_bus.CachedClockBus.step_on_bus.Goals as goal

pub returns-clause-does : goal.returns-clause-does
returns-clause-does g c =
    let bus = g.B.DeferredBus.shows c.step_later.new.self in
    let until = c.moment_of-self-inside.result in
    let now = c.clock.ensures.clock in
    let later = c.moment_of-self-inside.ensures.clock in
    let moment : until - (until - c.clock.result) ≡ bus.machine.clock = omega arith in
    (λ i. (c.step_later.result, ((λ i. caught_up g.B.C.Chip.meaning (moment i) (c.calls-self-inside.ensures.calls i) bus) ∙ caught_up-none g.B.C.Chip.meaning bus c.clock.ensures.book) i))
    ∙ rw (← c.self.view_is) c.step_later.ensures.does
