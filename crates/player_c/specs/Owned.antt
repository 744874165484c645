-- What a handle owns.
use Rattle.std.specs.Prelude.{Option, Some, None}
use base.Fml.{Fml, ftrue}
use mir.Syntax.{Ty}
use denote.RawPtr.{Ptr}
use Rattle.std_alloc.specs.Box.Ownership.{box_owns}
use Rattle.std.specs.Global.{Global}
use Rattle.std_heap.specs.contracts.GlobalAllocator.TheImpl.{ghosts}
use Rattle.spc_player.specs.Player.{SpcPlayer, player_row}

-- the right to free a block of the heap, which is the same of every handle
abbrev pub heap : Global
heap = record { memory = record { seal = tt } }

abbrev pub chunk : Ty → Ptr → Fml
chunk = ghosts.dealloc_token heap

-- the player at a pointer, and the right to free its block, where there is one
abbrev pub owns_playing : Ptr → Option SpcPlayer → Fml
owns_playing p None = ftrue
owns_playing p (Some player) = box_owns chunk player_row p player
