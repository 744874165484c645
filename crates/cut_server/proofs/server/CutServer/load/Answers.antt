use Rattle.std.proofs.Common.{arith}
use Rattle.cut_server.proofs.Serving.{saved_can_be_played, serving_back, goes_back_to}
use Rattle.cut_server.proofs.server.CutServer.load.Goals as goal

pub load-requires : goal.load-requires
load-requires g c = record { done = c.self.invariant.served.done; saved = saved_can_be_played g.met.C.Chip.saves_lawfully c.self.invariant c.args.index _ c.load-state.ensures }

pub invariant_of-self : goal.invariant_of-self
invariant_of-self g c =
    rw c.sample-self-inside.ensures
    (serving_back g.met.C.Chip.saves_lawfully c.self.invariant c.args.index _ c.load-state.ensures _ c.load.ensures.loaded c.load.ensures.done (omega (arith, c.self.invariant.counted, c.load.ensures.total)))

pub returns : goal.returns
returns g c = rw (← c.self.view_is) (goes_back_to g.met.C.Chip.saves_lawfully c.self.invariant c.args.index _ c.load-state.ensures _ c.load.ensures.loaded (omega (arith, c.load.ensures.total)))
