use Rattle.std.proofs.Common.{◌∙◌}
use Rattle.cut_server.proofs.Restarting.{chip_of_opening, begun_some}
use Rattle.cut_server.proofs.server.CutServer.opening_chip.Goals as goal

pub first-requires : goal.first-requires
first-requires g c = begun_some c.self.inside.table.pool c.self.inside.table.checkpoints c.self.invariant.served.begin

pub returns : goal.returns
returns g c = rw (← c.self.view_is) (c.chip.ensures ∙ chip_of_opening g.met.C.Chip.saves_lawfully c.self.invariant _ c.first.ensures)
