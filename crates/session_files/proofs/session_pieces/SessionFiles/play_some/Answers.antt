use Rattle.std.proofs.Common.{refl}
use Rattle.session_files.proofs.Going.{played_on}
use Rattle.session_files.proofs.session_pieces.SessionFiles.play_some.Goals as goal

pub returns : goal.returns
returns g c =
    rw (← c.self.view_is) (played_on g.C.Chip.meaning g.C.Chip.saving c.play_some.new.frames c.play_some.ensures.tune c.play_some.ensures.session refl refl c.play_some.ensures.frames c.put_played.ensures c.play_some.ensures.less)
