use Rattle.std.proofs.Common.{◌∙◌, ap, arith}
use Rattle.render_core.specs.Saved.{loaded_render}
use Rattle.cut_server.proofs.Restarting.{begun_some, played_anew, serving_anew, opening_anew, book_anew}
use Rattle.cut_server.proofs.server.CutServer.restart.Goals as goal

pub load-first-requires : goal.load-first-requires
load-first-requires g c = begun_some c.self.inside.table.pool c.self.inside.table.checkpoints c.self.invariant.served.begin

pub load-requires : goal.load-requires
load-requires g c = record {
  done = c.self.invariant.served.done;
  saved = rw c.with_chip-state.ensures (played_anew g.met.C.Chip.saves_lawfully c.self.invariant _ c.load-first.ensures c.args.chip c.requires);
}

pub has_pages-requires : goal.has_pages-requires
has_pages-requires g c = begun_some c.self.inside.table.pool c.self.inside.table.checkpoints c.self.invariant.served.begin

pub invariant_of-self : goal.invariant_of-self
invariant_of-self g c =
    serving_anew g.met.C.Chip.saves_lawfully c.self.invariant _ c.load-first.ensures c.args.chip c.requires _
    (c.load.ensures.loaded ∙ ap (λ t. loaded_render g.C.Chip.meaning g.C.Chip.saving c.self.inside.render t c.load-first.new.memory) c.with_chip-state.ensures)
    _ _ c.save-saved.ensures.saved c.memory.ensures _ c.restart.ensures.saved c.load.ensures.done (omega (arith, c.self.invariant.counted, c.load.ensures.total))

pub returns-clause-opening : goal.returns-clause-opening
returns-clause-opening g c =
    rw (← c.self.view_is)
    (opening_anew g.met.C.Chip.saves_lawfully c.self.invariant _ c.load-first.ensures c.args.chip c.requires _
    (c.load.ensures.loaded ∙ ap (λ t. loaded_render g.C.Chip.meaning g.C.Chip.saving c.self.inside.render t c.load-first.new.memory) c.with_chip-state.ensures)
    _ _ c.save-saved.ensures.saved c.memory.ensures _ c.restart.ensures.saved)

pub returns-clause-book : goal.returns-clause-book
returns-clause-book g c =
    rw (← c.self.view_is)
    (book_anew g.met.C.Chip.saves_lawfully c.self.invariant _ c.load-first.ensures c.args.chip c.requires _
    (c.load.ensures.loaded ∙ ap (λ t. loaded_render g.C.Chip.meaning g.C.Chip.saving c.self.inside.render t c.load-first.new.memory) c.with_chip-state.ensures)
    _ _ c.save-saved.ensures.saved c.memory.ensures _ c.restart.ensures.saved c.restart.ensures.live c.load.ensures.total)
