use Rattle.snd_host.proofs.Readings.{reading_counts_nothing, begun_counts_nothing}
use Rattle.snd_host.proofs.laws.a_reading_counts_nothing.Goals as goal

pub returns-clause-whole : goal.returns-clause-whole
returns-clause-whole c = reading_counts_nothing

pub returns-clause-begun : goal.returns-clause-begun
returns-clause-begun c = begun_counts_nothing
