use Rattle.std.proofs.Common.{ap, arith}
use Rattle.cut_server.specs.ServerState.{book_of}
use Rattle.player.proofs.Nearness.{seek_near}
use Rattle.player.proofs.player.Player.seek.Goals as goal

pub returns-clause-near : goal.returns-clause-near
returns-clause-near g c =
    rw (← c.self.view_is)
    (λ mark stands before. omega (arith, ap (λ b. b.made) c.seek.ensures.book, seek_near (book_of c.self.inside.server) c.args.at mark stands before))
