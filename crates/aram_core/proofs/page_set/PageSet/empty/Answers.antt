use Rattle.aram_core.proofs.MarkedPages.{marked_pages-zero}
use Rattle.aram_core.proofs.page_set.PageSet.empty.Goals as goal

pub returns : goal.returns
returns c = marked_pages-zero
