use Rattle.lag_bus.specs.Lagging.{lagging}
use Rattle.std.proofs.Common.{◌-◌}
use Rattle.lag_bus.specs.CachedClock.{caught_up}
use Rattle.lag_bus.proofs.PassesInHand.{caught_up-book}
use Rattle.lag_bus.proofs.cached_clock_bus.CachedClockBusBus.read.Goals as goal

pub returns-clause-next : goal.returns-clause-next
returns-clause-next g c =
    let chip = g.B.C.Chip.meaning in
    let clock = c.self.inside.until - c.self.inside.left in
    let bus = ((lagging chip).read (caught_up chip clock c.self.inside.calls (g.B.DeferredBus.shows c.self.inside.bus.now)) c.args.addr).1 in
    rw (← c.self.view_is, c.read_later.ensures.next)
    (λ i. record { name = c.self.inside.bus.ghost_name; samples = c.self.inside.samples; bus = caught_up-book chip bus i })
