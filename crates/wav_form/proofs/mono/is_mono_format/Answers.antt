use Rattle.std.proofs.Common.{arith}
use Rattle.std.proofs.lemmas.Grind.{common_steps}
use Rattle.wav_form.proofs.mono.is_mono_format.Goals as goal

pub returns-else-read_u16-eq1-2 : goal.returns-else-read_u16-eq1-2
returns-else-read_u16-eq1-2 c = grind (arith, common_steps)

pub returns-then-read_u16-eq1-2 : goal.returns-then-read_u16-eq1-2
returns-then-read_u16-eq1-2 c = grind (arith, common_steps)
