use Rattle.snd_host.proofs.Readings.{cut_counts_once}
use Rattle.snd_host.proofs.laws.a_cut_reading_is_counted_once.Goals as goal

pub returns : goal.returns
returns c = cut_counts_once
