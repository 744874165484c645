use Rattle.player_c.proofs.handle.SpcwavePlayer.TheSendSync.{the_send}
use Rattle.player_c.proofs.threads.a_handle_may_go_to_another_thread.Goals as goal

pub returns : goal.returns
returns c = the_send
