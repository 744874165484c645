use Rattle.std.proofs.Common.{◌∙◌, sym}
use Rattle.render_core.proofs.EmptyLists.{empty-front, empty-back}
use Rattle.render_core.proofs.laws.pieces_after_the_last_are_empty.Goals as goal

pub returns : goal.returns
returns g c = λ old new given written is_last next frames records.
    let first = sym next.frames ∙ frames in
    let second = sym next.records ∙ records in
    (empty-front given _ first, empty-front written _ second, next.done.1 (empty-back given _ first, empty-back written _ second))
