-- A handle may go to another thread, as the player that it owns may.
use Rattle.std.proofs.Common.{Option, Some, None}
use base.Shift.{Keyless}
use mir.Raw.{raw}
use denote.Builtin.{RawPtr}
use denote.Memory.{lone}
use denote.RawPtr.{Ptr}
use denote.Param.Send.{IsSend, owning_send, struct_send, sendable}
use denote.Struct.Struct.{exits_of}
use denote.Struct.Owning.{shape, fields, to}
use Rattle.std_alloc.proofs.SendSync.{lies, quiet}
use Rattle.std.proofs.Crossing.{frees}
use Rattle.spc_player.specs.Player.{SpcPlayer, player_row as I}
use Rattle.spc_player.proofs.Sending.{player_send}
use Rattle.player_c.specs.Owned.{heap, owns_playing}
use Rattle.player_c.specs.contracts.owned_player.OwnedPlayer.{the_row, the_type}

pointer_send : IsSend RawPtr
pointer_send = search sendable

owned : (p : Ptr) (playing : Option SpcPlayer) → Keyless (owns_playing p playing)
owned p None = tt
owned p (Some x) = (lies I player_send p x, frees.frees heap (raw (lone I.mir)) p)

pub send : IsSend the_row
send = owning_send the_type (pointer_send, tt) (λ d. owned d.at d.playing) (λ k. quiet (to the_type) (exits_of k (fields the_type)) ((struct_send (shape the_type) (pointer_send, tt)).leaving k))
