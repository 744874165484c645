-- What a player is opened with beside its tune (own).
use Rattle.std.specs.Prelude.{Bool, ◌&&◌, nat_le}
use Rattle.page_pool.specs.Pool.{max_pages}
use Rattle.cut_form.specs.Checkpoints.{min_pages}
use Rattle.player.specs.OwnMarks.{max_mark_seconds}
use Rattle.spc_player.specs.declared.options.PlayerOptions.{PlayerOptions}

-- whether pages and seconds are in their ranges; any voices may be muted
abbrev pub are_in_range : PlayerOptions → Bool
are_in_range options = nat_le min_pages options.pages && nat_le options.pages max_pages && nat_le options.mark_seconds max_mark_seconds
