use Rattle.std.proofs.Common.{[]}
use Rattle.cut_server.proofs.Places.{stands_after}
use Rattle.cut_server.proofs.table.Table.has.Goals as goal

pub returns : goal.returns
returns g c = rw (← c.self.view_is, stands_after c.self.inside.pool [] c.self.inside.checkpoints.elements.items c.args.sample, ← c.deref.ensures) c.stands.ensures
