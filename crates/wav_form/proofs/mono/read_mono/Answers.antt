use Rattle.std.proofs.Common.{arith}
use Rattle.std.proofs.lemmas.Grind.{common_steps}
use Rattle.wav_form.proofs.mono.read_mono.Goals as goal

pub returns-then-is_wave-clause-causes : goal.returns-then-is_wave-clause-causes
returns-then-is_wave-clause-causes c = grind (arith, common_steps)

pub returns-then-is_wave-clause-refused : goal.returns-then-is_wave-clause-refused
returns-then-is_wave-clause-refused c = grind (arith, common_steps)

pub returns-then-is_wave-clause-samples : goal.returns-then-is_wave-clause-samples
returns-then-is_wave-clause-samples c = grind (arith, common_steps)
