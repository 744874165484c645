use Rattle.snd_host.proofs.Held.{gave_all}
use Rattle.snd_host.proofs.laws.an_input_read_to_its_end_gives_all.Goals as goal

pub returns : goal.returns
returns c = gave_all
