use Rattle.std.proofs.Common.{◌∙◌, sym, ap, arith, not, ◌<◌, false, take, length, ◌+◌, add-zero}
use Rattle.std.specs.List.{count_by}
use Rattle.std.proofs.lemmas.List.{take_all, length-take-le}
use Rattle.std.proofs.lemmas.List.Sums.{count_by-le-length}
use Rattle.std.proofs.lemmas.Option.{slice_get-get_or}
use Rattle.cut_server.proofs.Shared.{own_more}
use Rattle.cut_server.proofs.pages.own_slots.Goals as goal
use Rattle.cut_server.proofs.pages.own_slots.Goals.{then-not-shared-page, else-not-shared-page}

pub overflow_add-own : goal.overflow_add-own
overflow_add-own c =
    omega (arith, c.loop-page.invariant, c.loop-page-test.true, count_by-le-length not (take c.loop-page.page c.args.shared.now), length-take-le c.loop-page.page c.args.shared.now (omega (arith, c.told-shared)))

pub loop-page-preserved : goal.loop-page-preserved
loop-page-preserved c =
    let inside : c.loop-page.page < length c.args.shared.now = omega (arith, c.told-shared, c.loop-page-test.true) in
    let more = own_more c.args.shared.now c.loop-page.page _ inside (sym (slice_get-get_or c.args.shared.now c.loop-page.page false inside)) in
    elim c.if-not-shared-page.branch [
      | then-not-shared-page w ↦ w.own-is ∙ ap (λ n. n + 1) c.loop-page.invariant ∙ sym (rw w.if-not-shared-page.true at more)
      | else-not-shared-page w ↦ w.own-is ∙ c.loop-page.invariant ∙ sym (rw w.if-not-shared-page.false at more ∙ add-zero _)
    ]

pub returns : goal.returns
returns c = c.loop-page.invariant ∙ ap (λ l. count_by not l) (take_all c.loop-page.page c.args.shared.now (omega (arith, c.told-shared)))
