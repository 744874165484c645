-- The four faults that are looked for first, over all lines (own).
use Rattle.std.specs.Prelude.{ℕ, ◌+◌, Bool, false, ◌||◌, List, [], ◌∷◌, ◌++◌, length, nat_lt, Option, Some, None, is_some, if◌then◌else◌}
use Rattle.std.specs.List.{list_any}
use Rattle.spc700_table.specs.declared.Form.{Form}
use Rattle.spc700_table.specs.Opcodes.{row_of}
use Rattle.spc700_asm.specs.declared.refusal.LineFault.{LineFault}
use Rattle.spc700_asm.specs.declared.refusal.LineFault.TheVariants as fault
use Rattle.spc700_asm.specs.Instructions.{memory_end}
use Rattle.spc700_asm.specs.Patterns.{pattern_of}
use Rattle.spc700_asm.specs.Operands.{Operand, is_above, is_great}
use Rattle.spc700_asm.specs.Statements.{Statement, Nothing, Name, Bytes, Words, Code}
use Rattle.spc700_asm.specs.Labels.{Labels, size_of, end_of, labels_of, value_of}

-- A line, counted from 1, and what is wrong with it.
pub record LineRefusal : Type 0 where
  pub number : ℕ
  pub fault : LineFault

-- a number of an operand is above the greatest of its place
abbrev pub has_great_operand : Form → Option Operand → Bool
has_great_operand form None = false
has_great_operand form (Some operand) = is_great (pattern_of form).slot operand.value operand.bit

-- a number of a statement is
abbrev pub has_great_number : Statement → Bool
has_great_number Nothing = false
has_great_number (Name name) = false
has_great_number (Bytes numbers) = list_any (nat_lt 0xFF) numbers
has_great_number (Words words) = list_any (is_above 0xFFFF) words
has_great_number (Code opcode first second) =
    has_great_operand (row_of opcode).first first || has_great_operand (row_of opcode).second second

-- the statement defines a name that is defined
abbrev pub defines_again : Labels → Statement → Bool
defines_again labels (Name name) = is_some (value_of labels name)
defines_again labels statement = false

-- the first of the four faults of a line at an address, after lines that define these names
abbrev pub first_fault : Labels → (at : ℕ) → (line : Option Statement) → Option LineFault
first_fault labels at None = Some fault.Form
first_fault labels at (Some statement) =
    if has_great_number statement then Some fault.Number
    else if defines_again labels statement then Some fault.Twice
    else if nat_lt memory_end (at + size_of statement) then Some fault.Long
    else None

-- a fault of the line of a number, or else another refusal
abbrev pub refusal_or : (number : ℕ) → Option LineFault → (others : Option LineRefusal) → Option LineRefusal
refusal_or number (Some fault) others = Some (record { number = number; fault = fault })
refusal_or number None others = others

-- the least line that has one of the four faults, with its first, after lines that have none
unfoldable pub first_refusal : (origin : ℕ) → (before lines : List (Option Statement)) → Option LineRefusal
first_refusal origin before [] = None
first_refusal origin before (line ∷ lines) =
    refusal_or (length before + 1) (first_fault (labels_of origin before) (end_of origin before) line) (first_refusal origin (before ++ line ∷ []) lines)
