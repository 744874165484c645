use Rattle.envelope_laws.proofs.Targets.{stays_within}
use Rattle.envelope_laws.proofs.laws.the_level_stays_within_its_bounds.Goals as goal

pub returns : goal.returns
returns c = stays_within
