use Rattle.envelope_laws.proofs.Targets.{level_is_set, gain_falls, gain_falls_bent, gain_rises, gain_rises_bent, gain_rises_slowly}
use Rattle.envelope_laws.proofs.laws.a_gain_sets_or_slopes_the_level.Goals as goal

pub returns-clause-set : goal.returns-clause-set
returns-clause-set c = level_is_set

pub returns-clause-fall : goal.returns-clause-fall
returns-clause-fall c = gain_falls

pub returns-clause-bent_fall : goal.returns-clause-bent_fall
returns-clause-bent_fall c = gain_falls_bent

pub returns-clause-rise : goal.returns-clause-rise
returns-clause-rise c = gain_rises

pub returns-clause-bent_rise : goal.returns-clause-bent_rise
returns-clause-bent_rise c = gain_rises_bent

pub returns-clause-slow_rise : goal.returns-clause-slow_rise
returns-clause-slow_rise c = gain_rises_slowly
