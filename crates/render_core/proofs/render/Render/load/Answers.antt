use Rattle.std.proofs.Common.{ap, arith}
use Rattle.render_core.proofs.AtLength.{none_after}
use Rattle.render_core.proofs.render.Render.load.Goals as goal

pub returns-clause-given : goal.returns-clause-given
returns-clause-given g c =
    none_after g.C.Chip.meaning c.due-self-inside.result (c.args.saved.now.cpu, c.load.new.self.machine) (omega (arith, c.due-self-inside.ensures.due)) (ap (λ bus. bus.machine.frames) c.load.ensures.loaded)

pub returns-clause-total : goal.returns-clause-total
returns-clause-total g c = rw (← c.self.view_is) c.load.ensures.total
