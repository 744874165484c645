-- A player on the S-DSP may go to another thread, as the S-DSP and what is saved of it may.
use Rattle.std.specs.Thread.{IsSend}
use Rattle.dsp_state.specs.contracts.state.ChipState as state
use Rattle.dsp_core.specs.contracts.dsp.Dsp as dsp
use Rattle.dsp_core.specs.contracts.saved.DspState as saved
use Rattle.dsp_core.specs.contracts.chip.DspChip.TheImpl as as_chip
use Rattle.dsp_core.proofs.dsp.Dsp.TheSendSync.{the_send as dsp_send}
use Rattle.dsp_core.proofs.saved.DspState.TheSendSync.{the_send as saved_send}
use Rattle.player.proofs.player.Player.TheSendSync.{the_send as any_send}
use Rattle.spc_player.specs.Player.{player_row}

pub player_send : IsSend player_row
player_send = any_send dsp.the_row state.the_row saved.the_row as_chip.ghosts dsp_send saved_send
