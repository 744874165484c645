use Rattle.cut_server.proofs.Restarting.{pages_enough}
use Rattle.cut_server.proofs.table.Table.has_pages.Goals as goal

pub returns : goal.returns
returns g c = rw (← c.self.view_is) (pages_enough c.self.inside.pool c.self.inside.checkpoints.elements.items c.self.invariant.1 (rw (← c.self.view_is) at c.requires))
