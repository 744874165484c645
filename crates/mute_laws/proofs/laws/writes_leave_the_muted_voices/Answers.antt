use Rattle.mute_laws.proofs.GoOn.{writes_leave_muted}
use Rattle.mute_laws.proofs.laws.writes_leave_the_muted_voices.Goals as goal

pub returns : goal.returns
returns c = writes_leave_muted
