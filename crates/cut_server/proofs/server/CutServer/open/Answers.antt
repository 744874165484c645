use Rattle.std.proofs.Common.{arith, refl}
use Rattle.std.proofs.lemmas.Bool.Decides.{nat_tests}
use Rattle.render_core.specs.Opening.{opened_whole}
use Rattle.cut_server.proofs.Serving.{IsOpened, total_of, serving_opened, start_is_opened, frames_opened, book_opened}
use Rattle.cut_server.proofs.server.CutServer.open.Goals as goal

opened : (g : _) (c : goal.In_ok-table g) → IsOpened g.C.Chip.meaning c.in_ok-render.render (opened_whole c.args.file.now (g.C.Chip.state c.args.chip) 0) (g.C.Chip.total c.args.chip)
opened g c = record {
  whole = c.in_ok-render.ensures.whole;
  drained = refl;
  clock = refl;
  samples = c.in_ok-render.ensures.samples;
  done = grind (arith, nat_tests, c.in_ok-render.ensures.samples);
}

pub invariant_of-result : goal.invariant_of-result
invariant_of-result g c =
    serving_opened g.met.C.Chip.saves_lawfully (opened g c) c.in_ok-table.table c.save.result c.memory-2.result.now c.save.ensures.saved c.memory-2.ensures c.in_ok-table.ensures.saved (omega (arith, total_of (opened g c), c.requires.total))

pub returns-clause-opening : goal.returns-clause-opening
returns-clause-opening g c = start_is_opened g.met.C.Chip.saves_lawfully (opened g c) c.in_ok-table.table c.save.result c.memory-2.result.now c.save.ensures.saved c.memory-2.ensures c.in_ok-table.ensures.saved

pub returns-clause-frames : goal.returns-clause-frames
returns-clause-frames g c = frames_opened g.C.Chip.meaning g.C.Chip.saving c.in_ok-render.render c.in_ok-table.table (opened_whole c.args.file.now (g.C.Chip.state c.args.chip) 0) (returns-clause-opening g c) refl

pub returns-clause-book : goal.returns-clause-book
returns-clause-book g c =
    book_opened g.met.C.Chip.saves_lawfully (opened g c) (invariant_of-result g c) c.memory-2.result.now c.memory-2.ensures c.in_ok-table.ensures.live (omega (arith, total_of (opened g c), c.requires.total))
