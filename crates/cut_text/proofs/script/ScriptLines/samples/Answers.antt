use Rattle.std.proofs.Common.{arith}
use Rattle.std.proofs.lemmas.Grind.{common_steps}
use Rattle.cut_text.proofs.script.ScriptLines.samples.Goals as goal

pub loop-line-preserved : goal.loop-line-preserved
loop-line-preserved c = grind (arith, common_steps)

pub returns-clause-frames : goal.returns-clause-frames
returns-clause-frames c = grind (arith, common_steps)
