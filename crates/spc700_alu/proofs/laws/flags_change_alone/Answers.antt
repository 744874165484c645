use Rattle.spc700_alu.proofs.Apart.{flags_apart}
use Rattle.spc700_alu.proofs.laws.flags_change_alone.Goals as goal

pub returns : goal.returns
returns c = flags_apart
