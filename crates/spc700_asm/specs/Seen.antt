-- Words of the contracts of the parts of reading: what the code holds, without where it lies in memory.
use Rattle.std.specs.Prelude.{ℕ, ◌+◌, nat_le, if◌then◌else◌, List, length, Option, Some, None}
use Rattle.spc700_asm.specs.Operands as source
use Rattle.spc700_asm.specs.declared.operand.Written.{Written}
use Rattle.spc700_asm.specs.declared.operand.Written.TheVariants.{Plain, Named}
use Rattle.spc700_asm.specs.declared.operand.Operand.{Operand}
use Rattle.spc700_asm.specs.declared.statement.Statement.{Statement}
use Rattle.spc700_asm.specs.declared.statement.Statement.TheVariants.{Nothing, Name, Bytes, Words, Code}
use Rattle.spc700_asm.specs.Characters.{number_of}
use Rattle.spc700_asm.specs.Operands.{written_of}
use Rattle.spc700_asm.specs.Statements as line
use Rattle.std.specs.Option.{option_map}

abbrev pub written_seen : Written → source.Written
written_seen (Plain number) = source.Plain number
written_seen (Named name) = source.Named name.now

abbrev pub operand_seen : Operand → source.Operand
operand_seen operand = record { before = operand.before.now; value = written_seen operand.value; bit = operand.bit; after = operand.after.now }

-- an operand where there is one
abbrev pub as_seen : Option Operand → Option source.Operand
as_seen operand = option_map operand_seen operand

-- the length of what is left, more by one than that of its text
abbrev pub length_left : Option (List ℕ) → ℕ
length_left None = 0
length_left (Some text) = 1 + length text

-- the statement, where the items have a form
abbrev pub statement_seen : Statement → Option line.Statement
statement_seen Nothing = Some line.Nothing
statement_seen (Name name) = Some (line.Name name.now)
statement_seen (Bytes items) = option_map line.Bytes (line.all_of number_of (line.items_of items.now))
statement_seen (Words items) = option_map line.Words (line.all_of written_of (line.items_of items.now))
statement_seen (Code opcode first second) = Some (line.Code opcode (option_map operand_seen first) (option_map operand_seen second))

-- a size, where there is room for it
abbrev pub within : (room size : ℕ) → Option ℕ
within room size = if nat_le size room then Some size else None
