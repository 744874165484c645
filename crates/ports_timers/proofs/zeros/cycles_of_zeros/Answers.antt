use Rattle.std.proofs.Common.{arith}
use Rattle.ports_timers.proofs.Fewer.{zeros_stay-each}
use Rattle.ports_timers.proofs.zeros.cycles_of_zeros.Goals as goal

pub returns-clause-stay : goal.returns-clause-stay
returns-clause-stay c =
    let io = c.args.io.now in
    zeros_stay-each io c.args.clock c.min-2.result c.cycles_at_0-first.result c.cycles_at_0-second.result c.cycles_at_0-third.result
    (omega (arith, c.min.ensures, c.min-2.ensures)) (omega (arith, c.min.ensures, c.min-2.ensures)) (omega (arith, c.min-2.ensures))
    (rw c.has_bit.ensures at c.cycles_at_0-first.ensures.stay) (rw c.has_bit-2.ensures at c.cycles_at_0-second.ensures.stay) (rw c.has_bit-3.ensures at c.cycles_at_0-third.ensures.stay)
