use Rattle.std.proofs.Common.{◌∙◌}
use Rattle.std.specs.FinSet as set
use Rattle.aram_core.proofs.SetsOfPages.{marked_pages-or}
use Rattle.aram_core.proofs.page_set.PageSet.add_all.Goals as goal

pub returns : goal.returns
returns c =
    rw (c.joined-self-inside.ensures, c.joined-self-inside-2.ensures) (marked_pages-or c.self.inside.low c.self.inside.high c.other.inside.low c.other.inside.high
    ∙ (λ i. set.union (c.self.view_is i) (c.other.view_is i)))
