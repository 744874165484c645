use Rattle.std.proofs.Common.{◌≡◌, ◌+◌, ◌-◌, ◌<◌, sym, ◌∙◌, arith}
use Rattle.lag_bus.specs.CachedClock.{fallen_at, caught_up}
use Rattle.lag_bus.proofs.PassesInHand.{pass-caught_up}
use Rattle.lag_bus.proofs.cached_clock_bus.CachedClockBusBus.pass.Goals as goal

pub returns-then-from-self : goal.returns-then-from-self
returns-then-from-self g c =
    let bus = g.B.DeferredBus.shows c.self.inside.bus.now in
    let until = c.self.inside.until in
    let left = c.self.inside.left in
    let clock = until - left in
    let behind = c.self.invariant.1 in
    let cycles = c.from-then-from-self.ensures in
    let less = c.if-from-self.true in
    let before = c.self.invariant.0 in
    let free : bus.book.pending + fallen_at (clock + c.args.cycles) bus < 64 =
    let may = c.self.invariant.2 (omega arith) in let there = may.free in omega arith in
    let moment : until - (left - c.from-then-from-self.result) ≡ clock + c.args.cycles = omega arith in
    rw (← c.self.view_is)
    (λ i. record {
      name = c.self.inside.bus.ghost_name;
      samples = c.self.inside.samples;
      bus = ((λ i. caught_up g.B.C.Chip.meaning (moment i) (c.self.inside.calls + 1) bus)
          ∙ sym (pass-caught_up g.B.C.Chip.meaning bus clock c.self.inside.calls behind c.args.cycles c.requires.few free)) i;
    })
