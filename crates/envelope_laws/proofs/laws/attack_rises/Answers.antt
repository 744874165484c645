use Rattle.envelope_laws.proofs.Targets.{fast_attack_rises, attack_rises}
use Rattle.envelope_laws.proofs.laws.attack_rises.Goals as goal

pub returns-clause-fast : goal.returns-clause-fast
returns-clause-fast c = fast_attack_rises

pub returns-clause-other : goal.returns-clause-other
returns-clause-other c = attack_rises
