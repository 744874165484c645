use Rattle.snd_host.proofs.Readings.{stays_steady}
use Rattle.snd_host.proofs.laws.a_reading_leaves_a_steady_host_as_it_was.Goals as goal

pub returns : goal.returns
returns c = stays_steady
