use Rattle.envelope_laws.proofs.Rises.{release_falls, release_ends}
use Rattle.envelope_laws.proofs.laws.a_release_falls_to_nothing.Goals as goal

pub returns-clause-falls : goal.returns-clause-falls
returns-clause-falls c = release_falls

pub returns-clause-ends : goal.returns-clause-ends
returns-clause-ends c = release_ends
