-- How the rows of the opcodes differ, and the numbers that they have.
use Rattle.std.specs.Prelude.{◌≡◌, ℕ, ◌%◌, ◌<◌, ◌==◌, nat_lt, Bool, true, ◌&&◌, ◌||◌}
use Rattle.spc700_table.specs.declared.Form.{Form}
use Rattle.spc700_table.specs.declared.Form.TheVariants.{DirectBit, Table}
use Rattle.spc700_table.specs.Mnemonics.{mnemonic_of}
use Rattle.spc700_table.specs.Opcodes.{row_of, is_in_text_order}

-- opcodes with the same mnemonic and the same operands are the same
abbrev pub RowsDiffer : Type 0
RowsDiffer = (a b : ℕ) → a < 256 → b < 256
    → mnemonic_of (row_of a).kind ≡ mnemonic_of (row_of b).kind → (row_of a).first ≡ (row_of b).first → (row_of a).second ≡ (row_of b).second
    → a ≡ b

-- a bit is 0 to 7, an entry of TCALL's table 0 to 15
abbrev pub is_in_range : Form → Bool
is_in_range (DirectBit bit) = nat_lt bit 8
is_in_range (Table entry) = nat_lt entry 16
is_in_range _ = true

abbrev pub BitsAndEntriesInRange : Type 0
BitsAndEntriesInRange = (opcode : ℕ) → opcode < 256 → (is_in_range (row_of opcode).first && is_in_range (row_of opcode).second) ≡ true

-- BBS and BBC, which are all of column 3, CBNE and DBNZ
abbrev pub compares_and_branches : (opcode : ℕ) → Bool
compares_and_branches opcode = opcode % 0x10 == 3 || opcode == 0x2E || opcode == 0xDE || opcode == 0x6E || opcode == 0xFE

-- Of these alone the bytes stand in the order of the text.
abbrev pub TextOrderOfBranches : Type 0
TextOrderOfBranches = (opcode : ℕ) → opcode < 256 → is_in_text_order (row_of opcode) ≡ compares_and_branches opcode
