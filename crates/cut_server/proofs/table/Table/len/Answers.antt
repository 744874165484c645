use Rattle.std.proofs.Common.{rules, []}
use Rattle.cut_server.proofs.Places.{length-checkpoints_after}
use Rattle.cut_server.proofs.table.Table.len.Goals as goal

pub returns-clause-live : goal.returns-clause-live
returns-clause-live g c = let e = length-checkpoints_after c.self.inside.pool [] c.self.inside.checkpoints.elements.items in rw (← c.self.view_is, e) (search rules)
