use Rattle.mute_laws.proofs.Silence.{all_muted_is_silent}
use Rattle.mute_laws.proofs.laws.a_chip_with_all_voices_muted_is_silent.Goals as goal

pub returns : goal.returns
returns c = all_muted_is_silent
