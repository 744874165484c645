use Rattle.std.proofs.Common.{◌∙◌}
use Rattle.std.specs.FinSet as set
use Rattle.aram_core.proofs.SetsOfPages.{marked_pages-and_not}
use Rattle.aram_core.proofs.page_set.PageSet.without.Goals as goal

pub returns : goal.returns
returns c =
    marked_pages-and_not c.self.inside.low c.self.inside.high c.other.inside.low c.other.inside.high c.other.invariant.0 c.other.invariant.1
    ∙ (λ i. set.difference (c.self.view_is i) (c.other.view_is i))
