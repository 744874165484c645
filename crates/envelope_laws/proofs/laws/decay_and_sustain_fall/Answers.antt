use Rattle.envelope_laws.proofs.Targets.{decay_falls, sustain_falls}
use Rattle.envelope_laws.proofs.laws.decay_and_sustain_fall.Goals as goal

pub returns-clause-decay : goal.returns-clause-decay
returns-clause-decay c = decay_falls

pub returns-clause-sustain : goal.returns-clause-sustain
returns-clause-sustain c = sustain_falls
