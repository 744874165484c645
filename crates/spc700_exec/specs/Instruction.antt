-- The instruction of an opcode, and the step of the processor.
use Rattle.std.specs.Prelude.{Bool, true, false}
use Rattle.spc700_table.specs.declared.OpRow.{OpRow}
use Rattle.spc700_table.specs.Opcodes.{row_of}
use Rattle.spc700_exec.specs.declared.cpu.Cpu.{Cpu}
use Rattle.spc700_exec.specs.Bus.{BusMeaning}
use Rattle.spc700_exec.specs.Script.{Script, End, ToSample, outcome}
use Rattle.spc700_exec.specs.Operands.{fetched}
use Rattle.spc700_exec.specs.Operations.{Operation, operation_of, OnStatus, OnA, OnYa, Branch, BitBranch, CompareBranch, CountBranch, Move, Calculate, Compare, Modify, BitToCarry, BitInPlace, BitTest, WordOnYa, WordStore, WordModify, Push, Pop, Jump, Call, TableCall, Break, Return, InterruptReturn, Halt}
use Rattle.spc700_exec.specs.Lines.{status_line, a_line, ya_line, branch_line, bit_branch_line, compare_branch_line, count_branch_line, move_line, calculate_line, compare_line, modify_line, bit_to_carry_line, bit_in_place_line, bit_test_line, word_on_ya_line, word_store_line, word_modify_line, push_line, pop_line, jump_line, call_line, table_call_line, break_line, return_line, interrupt_return_line, halt_line}

-- the line of an operation
abbrev pub line_of : Operation → OpRow → Cpu → Script
line_of (OnStatus change) row cpu = status_line change row cpu
line_of (OnA change) row cpu = a_line change row cpu
line_of (OnYa change) row cpu = ya_line change row cpu
line_of (Branch condition) row cpu = branch_line condition row cpu
line_of (BitBranch on) row cpu = bit_branch_line on row cpu
line_of CompareBranch row cpu = compare_branch_line row cpu
line_of CountBranch row cpu = count_branch_line row cpu
line_of Move row cpu = move_line row cpu
line_of (Calculate calculate) row cpu = calculate_line calculate row cpu
line_of Compare row cpu = compare_line row cpu
line_of (Modify change) row cpu = modify_line change row cpu
line_of (BitToCarry kind) row cpu = bit_to_carry_line kind row cpu
line_of (BitInPlace kind) row cpu = bit_in_place_line kind row cpu
line_of (BitTest change) row cpu = bit_test_line change row cpu
line_of (WordOnYa calculate) row cpu = word_on_ya_line calculate row cpu
line_of WordStore row cpu = word_store_line row cpu
line_of (WordModify change) row cpu = word_modify_line change row cpu
line_of Push row cpu = push_line row cpu
line_of Pop row cpu = pop_line row cpu
line_of Jump row cpu = jump_line row cpu
line_of Call row cpu = call_line row cpu
line_of TableCall row cpu = table_call_line row cpu
line_of Break row cpu = break_line row cpu
line_of Return row cpu = return_line row cpu
line_of InterruptReturn row cpu = interrupt_return_line row cpu
line_of Halt row cpu = halt_line row cpu

-- what a row of the instruction list does once its opcode was read
abbrev pub instruction : OpRow → Cpu → Script
instruction row cpu = line_of (operation_of row.kind row.first row.second) row cpu

-- a step: the opcode at PC, and its instruction; nothing but passing time where the processor has halted
abbrev pub step_unless : (halted : Bool) → Cpu → Script
step_unless true cpu = End cpu ToSample
step_unless false cpu = fetched cpu (λ opcode cpu. instruction (row_of opcode) cpu)

abbrev pub script : Cpu → Script
script cpu = step_unless cpu.halted cpu

-- the registers and the bus after a step
abbrev pub step_outcome : {S : Type 0} → BusMeaning S → Cpu → S → Cpu × S
step_outcome bus cpu s = outcome bus (bus.clock s) 0 (script cpu) s
