use Rattle.spc700_table.specs.Opcodes.{row_of, columns}
use Rattle.spc700_table.specs.Cycles.{printed_cycles, cycle_map}
use Rattle.tests_programs.proofs.steps.a_move_reads_and_writes.Goals as goal

-- the law at the opcode of MOV d,A, whose list of accesses computes
pub returns : goal.returns
unfolding row_of columns printed_cycles cycle_map
returns c = c.accesses_are_those_of_the_table.ensures.order 0xc4
