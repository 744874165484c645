use Rattle.reach_laws.proofs.Registers.{registers_stay}
use Rattle.reach_laws.proofs.laws.registers_stay_but_for_results.Goals as goal

pub returns : goal.returns
returns c = λ n k s memory address _ free. registers_stay n k s memory address free
