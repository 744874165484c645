use Rattle.cut_server.proofs.Renders.{machines_lawful}
use Rattle.cut_server.proofs.Restarting.{run_from, none_made}
use Rattle.cut_server.proofs.server.CutServer.at.Goals as goal

pub returns-clause-run : goal.returns-clause-run
returns-clause-run g c =
    let laws = machines_lawful g.C.Chip.meaning g.C.Chip.saving g.met.C.Chip.saves_lawfully in
    rw (← c.self.view_is) (run_from _ _ laws (none_made laws c.self.invariant.served))
