use Rattle.std.proofs.Common.{arith}
use Rattle.std.proofs.lemmas.Grind.{common_steps}
use Rattle.wav_form.proofs.mono.samples.Goals as goal

pub pairs-preserved : goal.pairs-preserved
pairs-preserved c = grind (arith, common_steps)
