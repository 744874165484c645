use Rattle.std.proofs.Common.{◌≡◌, ℕ, ◌<◌, false}
use Rattle.std.specs.Option.{option_map}
use Rattle.spc700_table.specs.Opcodes.{row_of}
use Rattle.spc700_asm.specs.Characters.{capitals}
use Rattle.spc700_asm.specs.Statements.{is_this}
use Rattle.spc700_asm.specs.Seen.{operand_seen}
use Rattle.spc700_asm.proofs.statement.this_opcode.Given as goal

-- no opcode before is
abbrev pub invariant-loop-opcode : goal.invariant-loop-opcode
invariant-loop-opcode l = (k : ℕ) → k < l.opcode → is_this (capitals l.word) (option_map operand_seen l.first) (option_map operand_seen l.second) (row_of k) ≡ false
