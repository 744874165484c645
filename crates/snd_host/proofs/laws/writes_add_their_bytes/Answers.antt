use Rattle.snd_host.proofs.Written.{given_of-writes}
use Rattle.snd_host.proofs.laws.writes_add_their_bytes.Goals as goal

pub returns : goal.returns
returns c = given_of-writes
