-- An operand as it is written in a source (own).
use Rattle.std.specs.Prelude.{ℕ, ◌==◌, ◌&&◌, ◌||◌, nat_lt, Bool, true, false, List, [], ◌∷◌, drop, codes, Option, Some, None, option_and_then, is_some, is_none, unwrap_or, if◌then◌else◌}
use Rattle.std.specs.Option.{option_map}
use Rattle.std.specs.List.{take_while, prefix_len, list_any}
use Rattle.std.specs.Str.{bytes_eq}
use Rattle.spc700_table.specs.declared.Form.{Form}
use Rattle.spc700_asm.specs.declared.pattern.Slot.{Slot}
use Rattle.spc700_asm.specs.declared.pattern.Slot.TheVariants.{Absent, Register, Byte, Address, Target, MemoryBit, OwnBit, OwnEntry}
use Rattle.spc700_asm.specs.Patterns.{pattern_of}
use Rattle.spc700_asm.specs.Characters.{is_name_character, is_name, is_dollar, is_point, capitals, number_of}

-- What is written for a number: the number, or a name.
pub data Written : Type 0 where
  Plain : ℕ → Written
  Named : List ℕ → Written

-- An operand: a number or a name, or a number and a bit, with something before it and something after.
pub record Operand : Type 0 where
  pub before : List ℕ
  pub value : Written
  pub bit : Option ℕ
  pub after : List ℕ

-- a number, or else a name
unfoldable pub written_of : List ℕ → Option Written
written_of text = name_or_number text (number_of text)
  where
    name_or_number : List ℕ → Option ℕ → Option Written
    name_or_number text (Some number) = Some (Plain number)
    name_or_number text None = if is_name text then Some (Named text) else None

-- the characters that stand before a number, and those that a number or a name has
abbrev pub is_mark : ℕ → Bool
is_mark character = list_any (λ mark. character == mark) (codes "#!/([")

abbrev pub is_value_character : ℕ → Bool
is_value_character character = is_name_character character || is_dollar character

-- an operand with a value, and the text after that: a dot and the number of a bit, or no bit
abbrev pub operand_with : (before : List ℕ) → Written → (after : List ℕ) → Option Operand
operand_with before value [] = Some (record { before = before; value = value; bit = None; after = [] })
operand_with before value (character ∷ characters) =
    if is_point character then option_map (λ bit. record { before = before; value = value; bit = Some bit; after = [] }) (number_of characters)
    else Some (record { before = before; value = value; bit = None; after = character ∷ characters })

-- the operand that a text is, its value and what is after it
unfoldable pub operand_after_marks : (before text : List ℕ) → Option Operand
operand_after_marks before text =
    option_and_then (λ value. operand_with before value (drop (prefix_len is_value_character text) text)) (written_of (take_while is_value_character text))

unfoldable pub operand_of : (text : List ℕ) → Option Operand
operand_of text = operand_after_marks (take_while is_mark text) (drop (prefix_len is_mark text) text)

-- a number, and not a name
abbrev pub is_plain : Written → Bool
is_plain (Plain number) = true
is_plain (Named name) = false

-- the name of a register, its letters of either case
abbrev pub is_register : (register : List ℕ) → Written → Bool
is_register register (Plain number) = false
is_register register (Named name) = bytes_eq (capitals name) register

-- what is written may fill a slot, its greatest value aside
abbrev pub fills : (register : List ℕ) → Slot → Written → (bit : Option ℕ) → Bool
fills register Absent value bit = false
fills register Register value bit = is_none bit && is_register register value
fills register Byte value bit = is_none bit && is_plain value
fills register Address value bit = is_none bit
fills register Target value bit = is_none bit
fills register MemoryBit value bit = is_some bit && is_plain value
fills register (OwnBit own) value bit = is_some bit && is_plain value
fills register (OwnEntry own) value bit = is_none bit && is_plain value

-- an operand is written as one of a form
abbrev pub has_form : Form → Operand → Bool
has_form form operand =
    let pattern = pattern_of form in
    bytes_eq operand.before pattern.before
    && (bytes_eq (capitals operand.after) pattern.after && fills pattern.register pattern.slot operand.value operand.bit)

-- this number is written
abbrev pub is_number : ℕ → Written → Bool
is_number own (Plain number) = number == own
is_number own (Named name) = false

-- the number that is the opcode's own is written, where there is one
abbrev pub is_own : Slot → Written → (bit : Option ℕ) → Bool
is_own Absent value bit = true
is_own Register value bit = true
is_own Byte value bit = true
is_own Address value bit = true
is_own Target value bit = true
is_own MemoryBit value bit = true
is_own (OwnBit own) value bit = unwrap_or bit 8 == own
is_own (OwnEntry own) value bit = is_number own value

-- a number is above the greatest of its place
abbrev pub is_above : (greatest : ℕ) → Written → Bool
is_above greatest (Plain number) = nat_lt greatest number
is_above greatest (Named name) = false

-- so is a number or a bit of a slot
abbrev pub is_great : Slot → Written → (bit : Option ℕ) → Bool
is_great Absent value bit = false
is_great Register value bit = false
is_great Byte value bit = is_above 0xFF value
is_great Address value bit = is_above 0xFFFF value
is_great Target value bit = is_above 0xFFFF value
is_great MemoryBit value bit = is_above 0x1FFF value || nat_lt 7 (unwrap_or bit 0)
is_great (OwnBit own) value bit = is_above 0xFF value || nat_lt 7 (unwrap_or bit 0)
is_great (OwnEntry own) value bit = is_above 15 value
