use Rattle.std.proofs.Common.{inr, refl, arith}
use Rattle.lag_bus.proofs.cached_clock_bus.CachedClockBus.begin_calls_anew.Goals as goal

pub invariant_of-self : goal.invariant_of-self
invariant_of-self g c = rw c.if-not-begin_calls_anew.ensures.same c.self.invariant

pub invariant_of-self-2 : goal.invariant_of-self-2
invariant_of-self-2 g c =
    let behind = c.self.invariant.1 in
    rw c.if-not-begin_calls_anew.ensures.anew (
      c.self.invariant.0,
      record {
        earlier = behind.earlier;
        free = behind.free;
        counted = inr (c.if-not-begin_calls_anew.ensures.drained refl);
        few = omega arith;
        fits = behind.fits;
      },
      λ some. let may = c.self.invariant.2 some in record { free = may.free; before_end = may.before_end },
    )
