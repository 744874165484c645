-- What C opens a player with beside its tune (own).
use Rattle.std.specs.Prelude.{◌==◌, ◌&&◌, if◌then◌else◌, Option, Some, None}
use Rattle.spc_player.specs.declared.options.PlayerOptions.{PlayerOptions}
use Rattle.spc_player.specs.Options.{are_in_range}
use Rattle.player_c.specs.declared.options.SpcwaveOptions.{SpcwaveOptions}
use Rattle.player_c.specs.declared.options.TheConstants.{OPTIONS_SIZE}

abbrev pub without_size : SpcwaveOptions → PlayerOptions
without_size options = record { pages = options.pages; mark_seconds = options.mark_seconds; muted = options.muted }

-- the options: none where the size is another, or one of them is out of its range
abbrev pub options_of : SpcwaveOptions → Option PlayerOptions
options_of options = if options.size == OPTIONS_SIZE && are_in_range (without_size options) then Some (without_size options) else None
