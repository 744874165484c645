use Rattle.cut_server.proofs.Places.{Finds, finds}
use Rattle.cut_server.proofs.table.Table.place_of.Goals as goal

found : (g : _) (c : goal.After-first_at g) → Finds c.args.self.now c.args.sample c.first_at.result
found g c = rw (← c.self.view_is) (finds _ c.args.sample c.first_at.result (rw c.deref.ensures at c.first_at.ensures))

pub returns-clause-sample : goal.returns-clause-sample
returns-clause-sample g c = (found g c).here

pub returns-clause-live : goal.returns-clause-live
returns-clause-live g c = (found g c).live

pub returns-clause-none : goal.returns-clause-none
returns-clause-none g c = (found g c).none
