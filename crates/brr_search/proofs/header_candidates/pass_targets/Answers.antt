use Rattle.std.proofs.Common.{arith}
use Rattle.std.proofs.lemmas.Grind.{common_steps}
use Rattle.brr_search.proofs.header_candidates.pass_targets.Goals as goal

pub returns : goal.returns
returns c = grind (arith, common_steps)

pub targets-preserved : goal.targets-preserved
targets-preserved c = grind (arith, common_steps)
