use Rattle.std.proofs.Common.{refl}
use Rattle.cut_form.proofs.Slices.{drop_at}
use Rattle.session_files.proofs.Going.{answered}
use Rattle.session_files.proofs.session_pieces.SessionFiles.answer_next.Goals as goal

pub returns : goal.returns
returns g c =
    rw (← c.self.view_is)
    (answered g.C.Chip.meaning g.C.Chip.saving c.line-line.result c.answer-reply.result c.answer-reply.ensures (rw (← c.self.view_is) at c.requires.none)
    (drop_at c.self.inside.script c.self.inside.next c.line-line.result c.line-line.ensures.line) c.put_line.ensures.items refl)
