use Rattle.std.proofs.Common.{◌≡◌, ◌+◌, ◌-◌, ◌<◌, ◌∙◌, ap, arith}
use Rattle.std.specs.FinSet as set
use Rattle.aram_core.proofs.MarkedPages.{marked_pages-add_low, marked_pages-add_high}
use Rattle.aram_core.proofs.page_set.PageSet.add.Goals as goal

pub returns-then-page-lt128 : goal.returns-then-page-lt128
returns-then-page-lt128 c =
    rw c.with_bit-self-inside.ensures (marked_pages-add_low c.self.inside.low c.self.inside.high c.args.page c.if-page-lt128.true ∙ ap (λ s. set.insert s c.args.page) c.self.view_is)

pub returns-else-page-lt128 : goal.returns-else-page-lt128
returns-else-page-lt128 c =
    let within : c.args.page - 128 < 128 = omega (arith, c.ranges.page) in
    let page : 128 + (c.args.page - 128) ≡ c.args.page = omega (arith, c.if-page-lt128.false) in
    rw c.with_bit-self-inside-else-page-lt128.ensures
    (marked_pages-add_high c.self.inside.low c.self.inside.high (c.args.page - 128) within ∙ (λ i. set.insert (c.self.view_is i) (page i)))
