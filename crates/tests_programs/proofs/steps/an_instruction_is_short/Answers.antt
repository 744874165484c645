use Rattle.std.proofs.Common.{false}
use Rattle.tests_programs.proofs.steps.an_instruction_is_short.Goals as goal

-- a step reads its opcode first, so that an instruction is one access shorter than a step
pub returns : goal.returns
returns c = λ cpu op. c.steps_are_short.ensures (record cpu { halted = false }) op
