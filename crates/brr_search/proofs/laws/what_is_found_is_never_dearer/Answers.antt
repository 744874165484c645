use Rattle.brr_search.proofs.Choice.{never_dearer}
use Rattle.brr_search.proofs.laws.what_is_found_is_never_dearer.Goals as goal

pub returns : goal.returns
returns c = never_dearer
