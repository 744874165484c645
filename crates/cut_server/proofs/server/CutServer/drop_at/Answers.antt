use Rattle.std.proofs.Common.{◌<◌, suc}
use Rattle.cut_server.proofs.OnTheRun.{tune_less, later_than_first}
use Rattle.cut_server.proofs.Serving.{serving_less}
use Rattle.cut_server.proofs.server.CutServer.drop_at.Goals as goal

later : (g : _) (c : goal.After-remove g) → 0 < c.in-Some.place
later g c = later_than_first c.self.inside.table c.in-Some.place c.args.sample c.self.invariant.served.begin c.in-Some.ensures.sample c.requires.not_opening

pub invariant_of-self : goal.invariant_of-self
invariant_of-self g c = serving_less c.self.invariant _ c.in-Some.place (suc c.in-Some.place) (later g c) c.remove.ensures.saved

pub returns-in-Some-clause-tune : goal.returns-in-Some-clause-tune
returns-in-Some-clause-tune g c = rw (← c.self.view_is) (tune_less c.self.invariant.served _ c.in-Some.place (suc c.in-Some.place) (later g c) c.remove.ensures.saved c.remove.ensures.size)
