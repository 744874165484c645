use Rattle.std.proofs.Common.{◌≡◌, ◌+◌, ◌-◌, ◌∙◌, ap, arith, nat_lt}
use Rattle.aram_core.proofs.PagesFrom.{up_to_the_end, past_the_end}
use Rattle.aram_core.proofs.page_set.PageSet.pages_from.Goals as goal

pub returns-then-end-le-PAGES : goal.returns-then-end-le-PAGES
returns-then-end-le-PAGES c =
    let first : c.from-first.result ≡ c.args.first = c.from-first.ensures in
    rw c.without.ensures
    (up_to_the_end c.args.first c.args.count (omega (arith, c.ranges.first)) c.requires (omega (arith, first, c.if-end-le-PAGES.true)) c.below.result c.below-before.result
    (λ q. c.below.ensures q ∙ ap (λ n. nat_lt q (n + c.args.count)) first) (λ q. c.below-before.ensures q ∙ ap (nat_lt q) first))

pub returns-else-end-le-PAGES : goal.returns-else-end-le-PAGES
returns-else-end-le-PAGES c =
    let first : c.from-first.result ≡ c.args.first = c.from-first.ensures in
    rw (c.add_all.ensures, c.without-pages.ensures)
    (past_the_end c.args.first c.args.count (omega (arith, c.ranges.first)) c.requires (omega (arith, first, c.if-end-le-PAGES.false)) c.below-else-end-le-PAGES.result c.below-before.result c.below-else-end-le-PAGES-2.result
    c.below-else-end-le-PAGES.ensures (λ q. c.below-before.ensures q ∙ ap (nat_lt q) first) (λ q. c.below-else-end-le-PAGES-2.ensures q ∙ ap (λ n. nat_lt q (n + c.args.count - 256)) first))
