-- What a handle ends as, once its player was lent.
use Rattle.std.specs.Prelude.{Some}
use Rattle.std.specs.Borrow.{Lends, MutBor, Fml}
use Rattle.spc_player.specs.Player.{SpcPlayer, player_row}
use Rattle.player_c.specs.declared.owned_player.OwnedPlayer.{OwnedPlayer}
use Rattle.player_c.specs.contracts.owned_player.OwnedPlayer.{the_row as owned_row}

-- a handle whose player has become another
abbrev pub with_player : OwnedPlayer → SpcPlayer → OwnedPlayer
with_player owned player = record owned { playing = Some player }

-- the handle ends with the last value of the player
abbrev pub LendsPlayer : MutBor OwnedPlayer → MutBor SpcPlayer → Fml
LendsPlayer owned player = Lends owned_row player_row owned player (with_player owned.now)
