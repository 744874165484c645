use Rattle.std.proofs.Common.{◌∙◌, ◌++◌, ◌∷◌, [], sym, ap, ◌<◌, arith, false, length, take}
use Rattle.std.proofs.lemmas.List.{length-set, take_all, take_more, take_more_set}
use Rattle.std.proofs.lemmas.Option.{get_or_from_slice_get}
use Rattle.cut_form.specs.Checkpoints.{shared_with_newest, pages_of}
use Rattle.cut_server.specs.Table.{live_checkpoints}
use Rattle.cut_server.proofs.Shared.{length-shared, length-pages_of}
use Rattle.cut_server.proofs.table.Table.shared_pages.Goals as goal

pub loop-page-preserved : goal.loop-page-preserved
loop-page-preserved g c =
    let live = live_checkpoints c.args.self.now in
    let pages = pages_of c.args.memory.now in
    let inside : c.loop-page.page < length (shared_with_newest live pages) = omega (arith, length-shared live pages, length-pages_of c.args.memory.now, c.loop-page-test.true) in
    let here = get_or_from_slice_get (shared_with_newest live pages) c.loop-page.page c.is_shared.result false (sym c.is_shared.ensures) in (
      length-set c.loop-page.shared c.loop-page.page c.is_shared.result ∙ c.loop-page.invariant.0,
      take_more_set c.loop-page.shared c.loop-page.page c.is_shared.result (omega (arith, c.loop-page.invariant.0, c.loop-page-test.true))
          ∙ ap (λ l. l ++ c.is_shared.result ∷ []) c.loop-page.invariant.1
          ∙ ap (λ b. take c.loop-page.page (shared_with_newest live pages) ++ b ∷ []) (sym here)
          ∙ sym (take_more (shared_with_newest live pages) c.loop-page.page false inside),
    )

pub returns : goal.returns
returns g c =
    let live = live_checkpoints c.args.self.now in
    let pages = pages_of c.args.memory.now in
    sym (take_all c.loop-page.page c.loop-page.shared (omega (arith, c.loop-page.invariant.0)))
    ∙ c.loop-page.invariant.1
    ∙ take_all c.loop-page.page (shared_with_newest live pages) (omega (arith, length-shared live pages, length-pages_of c.args.memory.now))
