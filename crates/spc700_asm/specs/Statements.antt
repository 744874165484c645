-- What a line of a source says (own).
use Rattle.std.specs.Prelude.{ℕ, ◌+◌, ◌==◌, ◌&&◌, Bool, true, List, [], ◌∷◌, length, take, drop, map, codes, position, Option, Some, None, option_and_then, if◌then◌else◌}
use Rattle.std.specs.Option.{option_map, option_or}
use Rattle.std.specs.List.{before_first, after_first, slice_split, range_with_len}
use Rattle.std.specs.Str.{bytes_eq}
use Rattle.spc700_table.specs.declared.Form.{Form}
use Rattle.spc700_table.specs.declared.OpRow.{OpRow}
use Rattle.spc700_table.specs.Opcodes.{row_of}
use Rattle.spc700_table.specs.Mnemonics.{mnemonic_of}
use Rattle.spc700_asm.specs.Patterns.{pattern_of, is_absent}
use Rattle.spc700_asm.specs.Characters.{is_blank, is_semicolon, is_colon, is_comma, trim, capitals, is_name, number_of}
use Rattle.spc700_asm.specs.Operands.{Written, Operand, written_of, operand_of, has_form, is_own}

-- What a line says: nothing, a name for its address, bytes, words, or an instruction by its opcode and operands.
pub data Statement : Type 0 where
  Nothing : Statement
  Name : List ℕ → Statement
  Bytes : List ℕ → Statement
  Words : List Written → Statement
  Code : (opcode : ℕ) → (first second : Option Operand) → Statement

-- each item, where each has a value
abbrev pub all_of : {A B : Type 0} → (A → Option B) → List A → Option (List B)
all_of value [] = Some []
all_of value (item ∷ items) = option_and_then (λ first. option_map (λ others. first ∷ others) (all_of value items)) (value item)

-- the texts of items between commas
abbrev pub items_of : (text : List ℕ) → List (List ℕ)
items_of text = map trim (slice_split is_comma text)

-- an operand is written as one of a form, or there is none of either
abbrev pub fits : Form → Option Operand → Bool
fits form None = is_absent (pattern_of form).slot
fits form (Some operand) = has_form form operand

-- the number that is the opcode's own is written, where there is one
abbrev pub owns : Form → Option Operand → Bool
owns form None = true
owns form (Some operand) = is_own (pattern_of form).slot operand.value operand.bit

-- an instruction with these operands is written as one of this row, whatever its numbers
abbrev pub is_alike : (name : List ℕ) → (first second : Option Operand) → OpRow → Bool
is_alike name first second row = bytes_eq name (mnemonic_of row.kind) && (fits row.first first && fits row.second second)

-- and has the row's own numbers
abbrev pub is_this : (name : List ℕ) → (first second : Option Operand) → OpRow → Bool
is_this name first second row = is_alike name first second row && (owns row.first first && owns row.second second)

-- the rows of all opcodes, in order
unfoldable pub all_rows : List OpRow
all_rows = map row_of (range_with_len 0 256)

-- the opcode that an instruction is written as; where a number is too great for any, the least that is written alike
unfoldable pub opcode_written : (name : List ℕ) → (first second : Option Operand) → Option ℕ
opcode_written name first second =
    option_or (position (is_this name first second) all_rows) (position (is_alike name first second) all_rows)

-- an instruction in capitals with these operands
abbrev pub code : (name : List ℕ) → (first second : Option Operand) → Option Statement
code name first second = option_map (λ opcode. Code opcode first second) (opcode_written name first second)

-- an operand, and one after a comma where there is a comma
abbrev pub with_operands : (name text : List ℕ) → Option ℕ → Option Statement
with_operands name text None = option_and_then (λ first. code name (Some first) None) (operand_of text)
with_operands name text (Some comma) =
    option_and_then (λ first. option_and_then (λ second. code name (Some first) (Some second)) (operand_of (trim (drop (comma + 1) text))))
    (operand_of (trim (take comma text)))

abbrev pub instruction_of : (name text : List ℕ) → Option Statement
instruction_of name [] = code name None None
instruction_of name (character ∷ characters) = with_operands name (character ∷ characters) (position is_comma (character ∷ characters))

-- a line by its first word and what is after it
unfoldable pub statement_of_word : (word text : List ℕ) → Option Statement
statement_of_word word text =
    if bytes_eq word (codes ".byte") then option_map Bytes (all_of number_of (items_of text))
    else if bytes_eq word (codes ".word") then option_map Words (all_of written_of (items_of text))
    else instruction_of (capitals word) text

-- a line with a colon is a name and nothing more
unfoldable pub label_of : (text : List ℕ) → (colon : ℕ) → Option Statement
label_of text colon =
    if (colon + 1 == length text) && is_name (take colon text) then Some (Name (take colon text)) else None

abbrev pub statement_or_label : (text : List ℕ) → (colon : Option ℕ) → Option Statement
statement_or_label text (Some colon) = label_of text colon
statement_or_label text None = statement_of_word (before_first is_blank text) (trim (after_first is_blank text))

-- a line without its comment and the blanks at its ends
abbrev pub text_statement : (text : List ℕ) → Option Statement
text_statement [] = Some Nothing
text_statement (character ∷ characters) = statement_or_label (character ∷ characters) (position is_colon (character ∷ characters))

-- what a line says, if it has a form
unfoldable pub statement_of : (line : List ℕ) → Option Statement
statement_of line = text_statement (trim (before_first is_semicolon line))
