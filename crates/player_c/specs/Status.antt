-- The numbers that calls answer: those of the program's statuses, and two more.
use Rattle.std.specs.Prelude.{ℕ, ◌==◌, ◌&&◌, Bool, if◌then◌else◌, nat_le, nat_lt, List, Result, Ok, Err, is_some}
use Rattle.num_fix.specs.Limits.{max_frames}
use Rattle.spc_form.specs.declared.reading.SpcRefusal.{SpcRefusal}
use Rattle.spc_form.specs.Accepted.{spc_file}
use Rattle.spc_player.specs.declared.refusal.PlayerRefusal.{PlayerRefusal}
use Rattle.spc_player.specs.declared.refusal.PlayerRefusal.TheVariants.{SpcLength, SpcSignature, TableLength, OutOfMemory}
use Rattle.spc_player.specs.Inputs.{Inputs, inputs_of}
use Rattle.spc_player.specs.Player.{SpcPlayer}
use Rattle.spc_player.specs.Refusals.{of_spc}
use Rattle.player.specs.Player.{sought_some}
use Rattle.player_c.specs.declared.options.SpcwaveOptions.{SpcwaveOptions}
use Rattle.player_c.specs.Options.{options_of}

abbrev pub ok : ℕ
ok = 0

abbrev pub status_of : PlayerRefusal → ℕ
status_of (SpcLength n) = 4
status_of (SpcSignature at) = 5
status_of (TableLength n) = 6
status_of OutOfMemory = 7

abbrev pub out_of_memory : ℕ
out_of_memory = 7

-- A number is out of its range. A seek isn't at its frame yet.
abbrev pub out_of_range : ℕ
out_of_range = 17

abbrev pub not_yet : ℕ
not_yet = 18

-- the status for inputs
abbrev pub status_for : Result Inputs PlayerRefusal → ℕ
status_for (Ok inputs) = ok
status_for (Err refusal) = status_of refusal

abbrev pub inputs_status : (bytes table : List ℕ) → ℕ
inputs_status bytes table = status_for (inputs_of bytes table)

-- the status with which a player is opened where memory is found: that for its options, before that for its inputs
abbrev pub open_status : SpcwaveOptions → (bytes table : List ℕ) → ℕ
open_status options bytes table = if is_some (options_of options) then inputs_status bytes table else out_of_range

-- the status for a file alone
abbrev pub spc_status_of : SpcRefusal → ℕ
spc_status_of refusal = status_of (of_spc refusal)

abbrev pub spc_status_for : Result (List ℕ) SpcRefusal → ℕ
spc_status_for (Ok file) = ok
spc_status_for (Err refusal) = spc_status_of refusal

abbrev pub spc_status : (bytes : List ℕ) → ℕ
spc_status bytes = spc_status_for (spc_file bytes)

-- the status of a call that needs its numbers within their ranges
abbrev pub range_status : (within : Bool) → ℕ
range_status within = if within then ok else out_of_range

-- the status of a seek towards a frame that makes at most so many
abbrev pub seek_status : SpcPlayer → (frame most : ℕ) → ℕ
seek_status player frame most =
    if nat_le frame max_frames && nat_lt 0 most then (if sought_some player frame most == frame then ok else not_yet) else out_of_range

-- the version of the library, 1.2.0: a byte for each of the last two numbers
abbrev pub version : ℕ
version = 0x010200
