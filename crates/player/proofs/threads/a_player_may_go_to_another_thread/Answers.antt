use denote.Param.{param, copied}
use Rattle.player.proofs.player.Player.TheSendSync.{the_send}
use Rattle.player.proofs.threads.a_player_may_go_to_another_thread.Goals as goal

pub returns : goal.returns
returns g c =
    the_send (param 0 g.row.C) (param 1 g.row.C-State) (copied 2 g.row.C-Saved) g.C.Chip c.type_bounds.send-C c.type_bounds.send-C-Saved
