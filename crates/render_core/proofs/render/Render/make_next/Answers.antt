use Rattle.lag_bus.specs.LagLaws.{lagging-lawful}
use Rattle.render_core.proofs.NextPiece.{is_next_piece, due_at_most}
use Rattle.render_core.proofs.render.Render.make_next.Goals as goal

pub invariant_of-self : goal.invariant_of-self
invariant_of-self g c =
    let e = c.make_piece-is_last.ensures in (
      c.self.invariant.0,
      e.between_steps,
      due_at_most g.C.Chip.meaning (lagging-lawful g.C.Chip.meaning) c.self.inside.samples c.self.inside.cpu c.make_piece-is_last.new.cpu c.self.inside.bus c.make_piece-is_last.new.bus
          c.make_piece-is_last.result c.self.invariant.2 e.hands_over.at_end e.over e.below,
    )

pub returns : goal.returns
returns g c =
    let e = c.make_piece-is_last.ensures in
    rw (← c.self.view_is) (is_next_piece g.C.Chip.meaning c.self.inside.samples c.self.inside.cpu c.make_piece-is_last.new.cpu c.self.inside.bus c.make_piece-is_last.new.bus _ _ _ _ _
    e.hands_over c.matches_its_book.ensures c.matches_its_book-2.ensures e.over e.some e.more e.later e.below e.at_length)
