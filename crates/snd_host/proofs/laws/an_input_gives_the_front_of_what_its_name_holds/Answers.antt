use Rattle.snd_host.proofs.Held.{gave_front}
use Rattle.snd_host.proofs.laws.an_input_gives_the_front_of_what_its_name_holds.Goals as goal

pub returns : goal.returns
returns c = gave_front
