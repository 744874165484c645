use Rattle.batch_rows.proofs.BoundingPages.{bounds_apart}
use Rattle.batch_rows.proofs.laws.chains_by_bounds.Goals as goal

pub returns : goal.returns
returns c = bounds_apart
