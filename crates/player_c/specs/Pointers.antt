-- What a pointer to a handle owns.
use Rattle.std.specs.Prelude.{Option, Some, None}
use Rattle.std.specs.Coded.{Coded}
use base.Fml.{Fml, ftrue}
use denote.RawPtr.{Ptr}
use Rattle.std_alloc.specs.Box.Ownership.{box_owns}
use Rattle.player_c.specs.declared.handle.SpcwavePlayer.{SpcwavePlayer}
use Rattle.player_c.specs.contracts.handle.SpcwavePlayer.{the_row}
use Rattle.player_c.specs.Owned.{chunk}

-- how a proof distinguishes handles
abbrev pub handle_code : Coded SpcwavePlayer
handle_code = the_row.coded

-- the handle at an address, and the right to free its block, where there is one
abbrev pub owns_handle : Ptr → Option SpcwavePlayer → Fml
owns_handle p None = ftrue
owns_handle p (Some handle) = box_owns chunk the_row p handle
