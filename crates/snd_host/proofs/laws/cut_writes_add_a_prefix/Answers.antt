use Rattle.snd_host.proofs.Written.{cut_adds}
use Rattle.snd_host.proofs.laws.cut_writes_add_a_prefix.Goals as goal

pub returns : goal.returns
returns c = cut_adds
