use Rattle.std.proofs.Common.{arith}
use Rattle.cut_server.proofs.Renders.{arrives}
use Rattle.cut_server.proofs.Serving.{serving_on, goes_on_to}
use Rattle.cut_server.proofs.server.CutServer.run.Goals as goal

pub invariant_of-self : goal.invariant_of-self
invariant_of-self g c =
    let later = rw (← c.self.view_is) at c.requires.later in
    let there = arrives g.C.Chip.meaning g.C.Chip.saving c.self.inside.render c.aim.new.self c.run_out.new.render c.args.at c.self.invariant.handed_over c.aim.ensures c.run_out.ensures.out in
    serving_on g.met.C.Chip.saves_lawfully c.self.invariant c.args.at (omega (arith, c.self.invariant.served.position, later)) c.requires.few _ there c.run_out.ensures.done (omega arith)

pub returns : goal.returns
returns g c =
    let there = arrives g.C.Chip.meaning g.C.Chip.saving c.self.inside.render c.aim.new.self c.run_out.new.render c.args.at c.self.invariant.handed_over c.aim.ensures c.run_out.ensures.out in
    rw (← c.self.view_is) (goes_on_to g.met.C.Chip.saves_lawfully c.self.invariant c.args.at _ there (omega (arith, there.total, c.self.invariant.counted, c.self.invariant.served.position)))
