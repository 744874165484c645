use Rattle.std.proofs.Common.{arith}
use Rattle.std.proofs.lemmas.Bool.Decides.{nat_tests}
use Rattle.render_core.proofs.AtLength.{none_to_come, whole_there}
use Rattle.render_core.proofs.render.Render.is_done.Goals as goal

pub returns-clause-arrived : goal.returns-clause-arrived
returns-clause-arrived g c = λ is.
    rw (← c.self.view_is) record {
      given = none_to_come g.C.Chip.meaning c.self.inside.samples c.self.inside.cpu c.self.inside.bus c.self.invariant.1 c.due.result c.due.ensures.due is;
      settled = grind (arith, nat_tests, is, c.due.ensures, c.self.invariant);
      sample = grind (arith, nat_tests, is, c.due.ensures, c.self.invariant);
      whole = whole_there g.C.Chip.meaning c.self.inside.samples c.self.inside.cpu c.self.inside.bus c.self.invariant.1 c.due.result c.due.ensures.due is;
    }
