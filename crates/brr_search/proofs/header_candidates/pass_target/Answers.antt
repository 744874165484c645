use Rattle.std.proofs.Common.{arith}
use Rattle.std.proofs.lemmas.Grind.{common_steps}
use Rattle.brr_search.proofs.header_candidates.pass_target.Goals as goal

pub returns-clause-candidates : goal.returns-clause-candidates
returns-clause-candidates c = grind (arith, common_steps)

pub candidates-preserved : goal.candidates-preserved
candidates-preserved c = grind (arith, common_steps)
