use Rattle.spc_player.proofs.MutedTunes.{at_opening}
use Rattle.spc_player.proofs.opening.open_player.Goals as goal

pub returns : goal.returns
returns c = record {
  opening = at_opening (record { file = c.args.file; weights = c.args.table }) c.args.options c.in_ok-server.server _ c.over.ensures.over
      c.in_ok-server.ensures.opening c.in_ok-server.ensures.book c.in_ok-server.ensures.slots;
}
