use Rattle.std.proofs.Common.{arith}
use Rattle.std.proofs.lemmas.Grind.{common_steps}
use Rattle.snd_host.proofs.outputs.Spare.reserve_all.Goals as goal

pub loop-room-preserved : goal.loop-room-preserved
loop-room-preserved c = grind (arith, common_steps)

pub returns : goal.returns
returns c = grind (arith, common_steps)
