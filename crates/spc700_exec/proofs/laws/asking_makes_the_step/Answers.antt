use Rattle.spc700_exec.specs.Instruction.{script}
use Rattle.spc700_exec.proofs.Driven.{driven_outcome_of_action}
use Rattle.spc700_exec.proofs.laws.asking_makes_the_step.Goals as goal

pub returns : goal.returns
returns g c = λ cpu s. driven_outcome_of_action g.B.Bus.means (g.B.Bus.means.clock s) 0 (script cpu) s
