use Rattle.std.proofs.Common.{◌∙◌}
use Rattle.cut_server.proofs.Renders.{chip_there}
use Rattle.cut_server.proofs.server.CutServer.chip.Goals as goal

pub returns-clause-state : goal.returns-clause-state
returns-clause-state g c = rw (← c.self.view_is) (c.chip.ensures.state c.self.invariant.served.done ∙ chip_there c.self.invariant)
