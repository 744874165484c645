use Rattle.aram_core.proofs.SetsOfPages.{contains-ones}
use Rattle.aram_core.proofs.page_set.PageSet.below.Goals as goal

pub returns : goal.returns
returns c = λ q. rw (c.ones.ensures, c.ones-2.ensures, c.min.ensures, c.saturating_sub.ensures) (contains-ones c.args.count q c.requires)
