-- The line of an instruction, and the listing of bytes (own).
use Rattle.std.specs.Prelude.{ℕ, zero, suc, ◌+◌, ◌/◌, ◌%◌, List, [], ◌∷◌, ◌++◌, length, drop, codes, decimal, Option, Some, None, if◌then◌else◌}
use Rattle.std.specs.List.{flat_map}
use Rattle.text_form.specs.Digits.{two_digits, four_digits}
use Rattle.spc700_table.specs.declared.Form.{Form}
use Rattle.spc700_table.specs.Opcodes.{row_of, length_of}
use Rattle.spc700_table.specs.Mnemonics.{mnemonic_of}
use Rattle.spc700_asm.specs.declared.pattern.Slot.{Slot}
use Rattle.spc700_asm.specs.declared.pattern.Slot.TheVariants.{Absent, Register, Byte, Address, Target, MemoryBit, OwnBit, OwnEntry}
use Rattle.spc700_asm.specs.declared.instruction.Instruction.{Instruction}
use Rattle.spc700_asm.specs.Patterns.{Pattern, pattern_of, is_absent}
use Rattle.spc700_asm.specs.Instructions.{instruction_at}

-- a byte and a word as they are written
abbrev pub byte_text : ℕ → List ℕ
byte_text byte = codes "$" ++ two_digits byte

abbrev pub word_text : ℕ → List ℕ
word_text word = codes "$" ++ four_digits word

-- a bit as it is written after an address
abbrev pub bit_text : ℕ → List ℕ
bit_text bit = codes "." ++ decimal bit

-- what stands for the number of an operand
abbrev pub slot_text : Slot → (number : ℕ) → List ℕ
slot_text Absent number = []
slot_text Register number = []
slot_text Byte number = byte_text (number % 0x100)
slot_text Address number = word_text number
slot_text Target number = word_text number
slot_text MemoryBit number = word_text (number % 0x2000) ++ bit_text (number / 0x2000)
slot_text (OwnBit bit) number = byte_text (number % 0x100) ++ bit_text bit
slot_text (OwnEntry entry) number = decimal entry

-- the text of an operand
abbrev pub pattern_text : Pattern → (number : ℕ) → List ℕ
pattern_text pattern number = pattern.before ++ pattern.register ++ slot_text pattern.slot number ++ pattern.after

abbrev pub operand_text : Form → (number : ℕ) → List ℕ
operand_text form number = pattern_text (pattern_of form) number

-- an operand with something before it; nothing where there is none
abbrev pub operand_after : List ℕ → Form → (number : ℕ) → List ℕ
operand_after before form number = if is_absent (pattern_of form).slot then [] else before ++ operand_text form number

-- the line of an instruction
unfoldable pub text_of : Instruction → List ℕ
text_of instruction =
    let row = row_of instruction.opcode in
    mnemonic_of row.kind ++ operand_after (codes " ") row.first instruction.first ++ operand_after (codes ",") row.second instruction.second

-- the line of bytes that are no whole instruction; none where there are no bytes
abbrev pub rest_text : (bytes : List ℕ) → List ℕ
rest_text [] = []
rest_text (byte ∷ bytes) = codes ".byte " ++ byte_text byte ++ flat_map (λ byte. codes "," ++ byte_text byte) bytes ++ codes "\n"

-- the line of the instruction at the front, where there is a whole one, and the listing of what is after it
abbrev pub listing_of_first : (after : (at : ℕ) → List ℕ → List ℕ) → (at : ℕ) → (bytes : List ℕ) → Option Instruction → List ℕ
listing_of_first after at bytes None = rest_text bytes
listing_of_first after at bytes (Some instruction) =
    let count = length_of instruction.opcode in
    text_of instruction ++ codes "\n" ++ after (at + count) (drop count bytes)

-- the listing of bytes that stand at an address, with at most so many instructions
abbrev pub listing_within : (most at : ℕ) → (bytes : List ℕ) → List ℕ
listing_within zero at bytes = rest_text bytes
listing_within (suc most) at bytes = listing_of_first (listing_within most) at bytes (instruction_at at bytes)

-- all of them: each takes a byte at least
unfoldable pub listing : (at : ℕ) → (bytes : List ℕ) → List ℕ
listing at bytes = listing_within (length bytes) at bytes
