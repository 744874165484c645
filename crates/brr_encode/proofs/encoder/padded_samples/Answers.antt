use Rattle.std.proofs.Common.{arith}
use Rattle.std.proofs.lemmas.Grind.{common_steps}
use Rattle.brr_encode.proofs.encoder.padded_samples.Goals as goal

pub returns-clause-targets : goal.returns-clause-targets
returns-clause-targets c = grind (arith, common_steps)
