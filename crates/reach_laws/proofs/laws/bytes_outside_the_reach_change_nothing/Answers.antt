use Rattle.reach_laws.proofs.Starts.{reach_stays}
use Rattle.reach_laws.proofs.Within.{reads_inside}
use Rattle.reach_laws.proofs.laws.bytes_outside_the_reach_change_nothing.Goals as goal

pub returns-clause-samples : goal.returns-clause-samples
returns-clause-samples c = reads_inside

pub returns-clause-reach : goal.returns-clause-reach
returns-clause-reach c = λ s memory at value _ free. reach_stays s memory at value free
