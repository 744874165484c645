use Rattle.std.proofs.Common.{◌-◌, inl, inr, arith}
use Rattle.lag_bus.specs.Lagging.{lagging}
use Rattle.lag_bus.specs.CachedClock.{caught_up}
use Rattle.lag_bus.proofs.PassesInHand.{caught_up-book}
use Rattle.lag_bus.proofs.cached_clock_bus.CachedClockBusBus.write.Goals as goal

pub invariant_of-self : goal.invariant_of-self
invariant_of-self g c =
    let behind = c.self.invariant.1 in
    let room = c.requires in
    rw c.put_unread.ensures.bus (
      c.self.invariant.0,
      record {
        earlier = behind.earlier;
        free = behind.free;
        counted = elim behind.counted [
          | inl each ↦ inl (omega arith)
          | inr none ↦ inr none
        ];
        few = let some = rw (← c.self.view_is) at room in omega arith;
        fits = behind.fits;
      },
      λ some. let may = c.self.invariant.2 some in record { free = may.free; before_end = may.before_end },
    )

pub returns : goal.returns
returns g c =
    let chip = g.B.C.Chip.meaning in
    let clock = c.self.inside.until - c.self.inside.left in
    let bus = (lagging chip).write (caught_up chip clock c.self.inside.calls (g.B.DeferredBus.shows c.self.inside.bus.now)) c.args.addr c.args.value in
    rw (← c.self.view_is, c.write_later.ensures)
    (λ i. record { name = c.self.inside.bus.ghost_name; samples = c.self.inside.samples; bus = caught_up-book chip bus i })
