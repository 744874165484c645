use Rattle.spc700_exec.proofs.Short.{IsShort-script}
use Rattle.spc700_exec.proofs.laws.steps_are_short.Goals as goal

pub returns : goal.returns
returns c = IsShort-script
