use Rattle.mute_laws.proofs.GoOn.{state_goes_on, records_go_on}
use Rattle.mute_laws.proofs.laws.muted_voices_go_on.Goals as goal

pub returns : goal.returns
returns c = λ k s muted memory. (state_goes_on k s muted memory, records_go_on k s muted memory)
