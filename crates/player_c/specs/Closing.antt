-- What a pointer may hold where a player is closed, and what it holds then.
use Rattle.std.specs.Prelude.{◌≡◌, None}
use denote.RawPtr.{null_ptr}
use Rattle.player_c.specs.declared.pointer.SpcwavePointer.{SpcwavePointer}

-- it is null where no handle stands
abbrev pub IsHandleOrNull : SpcwavePointer → Type 0
IsHandleOrNull pointer = pointer.handle ≡ None → pointer.at ≡ null_ptr

-- no handle stands, and it is null
abbrev pub nothing_there : SpcwavePointer
nothing_there = record { at = null_ptr; handle = None }
