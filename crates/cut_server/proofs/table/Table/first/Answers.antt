use Rattle.cut_server.proofs.Restarting.{first_read}
use Rattle.cut_server.proofs.table.Table.first.Goals as goal

pub returns : goal.returns
returns g c =
    let some = rw (← c.self.view_is) at c.requires in
    rw (← c.self.view_is, ← c.index-deref-0.is) (first_read _ _ c.index-deref-0.result some (rw c.deref.ensures at c.index-deref-0.is))
