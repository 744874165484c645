use Rattle.std.proofs.Common.{arith}
use Rattle.std.proofs.lemmas.Grind.{common_steps}
use Rattle.command_line.proofs.words.rip_over.Goals as goal

pub returns-in-empty-clause-meaning : goal.returns-in-empty-clause-meaning
returns-in-empty-clause-meaning c = grind (arith, common_steps)

pub returns-in-len2-clause-meaning : goal.returns-in-len2-clause-meaning
returns-in-len2-clause-meaning c = grind (arith, common_steps)

pub returns-in_default-clause-meaning : goal.returns-in_default-clause-meaning
returns-in_default-clause-meaning c = grind (arith, common_steps)
