use Rattle.spc700_table.specs.Opcodes.{row_of}
use Rattle.spc700_exec.proofs.Beyond.{row_operation, IsListed-row_of}
use Rattle.spc700_exec.proofs.Makes.{Makes-line_of}
use Rattle.spc700_exec.proofs.EveryRow.{row_accesses-few, row_accesses-below}
use Rattle.spc700_exec.proofs.laws.accesses_are_those_of_the_table.Goals as goal

pub returns-clause-order : goal.returns-clause-order
returns-clause-order c = λ op cpu. Makes-line_of (row_of op) cpu (row_operation (row_of op)) (IsListed-row_of op)

pub returns-clause-few : goal.returns-clause-few
returns-clause-few c = row_accesses-few

pub returns-clause-below : goal.returns-clause-below
returns-clause-below c = row_accesses-below
