use Rattle.std.proofs.Common.{arith}
use Rattle.std.proofs.lemmas.Grind.{common_steps}
use Rattle.brr_search.proofs.keeping.place_among.Goals as goal

pub others-preserved : goal.others-preserved
others-preserved c = grind (arith, common_steps)

pub returns-clause-place : goal.returns-clause-place
returns-clause-place c = grind (arith, common_steps)

pub returns-then-end_alike-clause-place : goal.returns-then-end_alike-clause-place
returns-then-end_alike-clause-place c = grind (arith, common_steps)

pub returns-then-candidate-other-clause-place : goal.returns-then-candidate-other-clause-place
returns-then-candidate-other-clause-place c = grind (arith, common_steps)
