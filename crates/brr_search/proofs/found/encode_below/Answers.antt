use Rattle.std.proofs.Common.{◌≡◌, ℕ, List, length, true, false, rules, sym, ap, ◌∙◌, arith}
use Rattle.std.proofs.lemmas.Bool.Decides.{nat_tests}
use Rattle.brr_search.specs.Found.{searched, is_cheaper}
use Rattle.brr_search.proofs.Choice.{not_whole, chosen}
use Rattle.brr_search.proofs.found.encode_below.Goals as goal

pub returns-then-len-targets-clause-none : goal.returns-then-len-targets-clause-none
unfolding searched
returns-then-len-targets-clause-none c _ =
    let bytes = c.in_ok-bytes.ensures in
    let sized : c.len.result ≡ length c.in_ok-bytes.bytes.items = search rules in
    ap (λ (b : List ℕ). is_cheaper c.args.cost c.args.targets.now b) (sym bytes)
    ∙ not_whole _ _ _ (λ e. c.if-len-targets.true (sized ∙ e))

pub returns-then-sum_of_squares-cost-clause-cheaper : goal.returns-then-sum_of_squares-cost-clause-cheaper
unfolding searched
returns-then-sum_of_squares-cost-clause-cheaper c =
    let sized : c.len.result ≡ length c.in_ok-bytes.bytes.items = search rules in
    chosen c.args.cost c.len.result c.sum_of_squares.result c.args.targets.now c.in_ok-bytes.bytes.items c.deref.result.now _ c.deref-2.result.now true
    c.in_ok-bytes.ensures sized c.if-len-targets.false c.deref.ensures.value (c.deref-2.ensures.value ∙ c.in_ok-reports.ensures.reports)
    c.sum_of_squares.ensures (grind (arith, nat_tests, c.if-sum_of_squares-cost.true))

pub returns-then-sum_of_squares-cost-clause-bytes : goal.returns-then-sum_of_squares-cost-clause-bytes
unfolding searched
returns-then-sum_of_squares-cost-clause-bytes c = c.in_ok-bytes.ensures

pub returns-else-sum_of_squares-cost-clause-none : goal.returns-else-sum_of_squares-cost-clause-none
unfolding searched
returns-else-sum_of_squares-cost-clause-none c _ =
    let sized : c.len.result ≡ length c.in_ok-bytes.bytes.items = search rules in
    chosen c.args.cost c.len.result c.sum_of_squares.result c.args.targets.now c.in_ok-bytes.bytes.items c.deref.result.now _ c.deref-2.result.now false
    c.in_ok-bytes.ensures sized c.if-len-targets.false c.deref.ensures.value (c.deref-2.ensures.value ∙ c.in_ok-reports.ensures.reports)
    c.sum_of_squares.ensures (grind (arith, nat_tests, c.if-sum_of_squares-cost.false))
