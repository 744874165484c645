use Rattle.std.proofs.Common.{◌≡◌, ◌+◌, ◌-◌, ◌∙◌, arith}
use Rattle.lag_bus.specs.Lagging.{lagging}
use Rattle.lag_bus.specs.CachedClock.{caught_up}
use Rattle.lag_bus.proofs.PassesInHand.{caught_up-book}
use Rattle.lag_bus.proofs.cached_clock_bus.CachedClockBus.pass_on_bus.Goals as goal

pub returns : goal.returns
returns g c =
    let chip = g.B.C.Chip.meaning in
    let clock = c.self.inside.until - c.self.inside.left in
    let bus = (lagging chip).pass (caught_up chip clock c.self.inside.calls (g.B.DeferredBus.shows c.self.inside.bus.now)) c.args.cycles in
    let cycles = c.from.ensures in
    let moment : clock + c.from.result - 0 ≡ clock + c.args.cycles = omega arith in
    rw (← c.self.view_is)
    (λ i. record {
      name = c.self.inside.bus.ghost_name;
      samples = c.self.inside.samples;
      bus = ((λ i. caught_up chip (moment i) (c.self.inside.calls + 1) (c.pass_later.ensures i)) ∙ caught_up-book chip bus) i;
    })
