use Rattle.envelope_laws.proofs.Rises.{fast_attack_time, linear_rise_time, bent_rise_time}
use Rattle.envelope_laws.proofs.laws.a_rise_takes_so_many_samples.Goals as goal

pub returns-clause-attack : goal.returns-clause-attack
returns-clause-attack c = fast_attack_time

pub returns-clause-linear : goal.returns-clause-linear
returns-clause-linear c = linear_rise_time

pub returns-clause-bent : goal.returns-clause-bent
returns-clause-bent c = bent_rise_time
