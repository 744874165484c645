use Rattle.std.proofs.Common.{refl}
use Rattle.dsp_state.specs.Volumes.{heard_volumes, all_volumes}
use Rattle.mute_laws.proofs.laws.without_muted_voices_all_are_heard.Goals as goal

pub returns : goal.returns
unfolding all_volumes heard_volumes
returns c = λ registers. refl
