use Rattle.spc_player.proofs.Sending.{player_send}
use Rattle.spc_player.proofs.threads.an_spc_player_may_go_to_another_thread.Goals as goal

pub returns : goal.returns
returns c = player_send
