-- An instruction as its line shows it, and its bytes at an address (own: which operand's bytes come first is that of the
-- SPC700; Anomie's SPC700 Doc, the instruction list).
use Rattle.std.specs.Prelude.{ℕ, zero, suc, ◌+◌, ◌-◌, ◌*◌, ◌/◌, ◌%◌, nat_lt, nat_le, ◌||◌, Bool, List, [], ◌∷◌, ◌++◌, length, drop, Option, Some, None, if◌then◌else◌}
use Rattle.aram_core.specs.declared.aram.TheConstants.{MEMORY_SIZE}
use Rattle.spc700_table.specs.declared.OpRow.{OpRow}
use Rattle.spc700_table.specs.declared.Form.{Form}
use Rattle.spc700_table.specs.Opcodes.{row_of, is_distance, operand_bytes, length_of, is_in_text_order}
use Rattle.spc700_table.specs.Branches.{branch_target}
use Rattle.spc700_asm.specs.declared.instruction.Instruction.{Instruction}

-- where the memory ends
abbrev pub memory_end : ℕ
memory_end = MEMORY_SIZE

-- where the bytes of each operand begin, after the opcode
abbrev pub first_place : OpRow → ℕ
first_place row = if is_in_text_order row then 0 else operand_bytes row.second

abbrev pub second_place : OpRow → ℕ
second_place row = if is_in_text_order row then operand_bytes row.first else 0

-- how far a target is ahead, and the distances that a byte has: 80h to FFh lead back
abbrev pub distance_ahead : (next target : ℕ) → ℕ
distance_ahead next target = (target + (0x10000 - next % 0x10000)) % 0x10000

abbrev pub is_near : (next target : ℕ) → Bool
is_near next target = nat_lt (distance_ahead next target) 0x80 || nat_le 0xFF80 (distance_ahead next target)

-- the number of so many bytes at the front, the low byte first
abbrev pub number_at : (count : ℕ) → List ℕ → ℕ
number_at zero bytes = 0
number_at (suc count) [] = 0
number_at (suc count) (byte ∷ bytes) = byte + 0x100 * number_at count bytes

-- so many bytes of a number, the low byte first
abbrev pub bytes_of_number : (count number : ℕ) → List ℕ
bytes_of_number zero number = []
bytes_of_number (suc count) number = number % 0x100 ∷ bytes_of_number count (number / 0x100)

-- the number that stands in the line for an operand whose bytes have this number: for a distance its target
abbrev pub number_in_line : Form → (next number : ℕ) → ℕ
number_in_line form next number = if is_distance form then branch_target next number else number

-- the number of its bytes for one that stands in the line
abbrev pub number_in_bytes : Form → (next number : ℕ) → ℕ
number_in_bytes form next number = if is_distance form then distance_ahead next number % 0x100 else number

-- the bytes of an operand
abbrev pub bytes_of_operand : Form → (next number : ℕ) → List ℕ
bytes_of_operand form next number = bytes_of_number (operand_bytes form) (number_in_bytes form next number)

-- the bytes of both operands
abbrev pub bytes_of_operands : OpRow → (next first second : ℕ) → List ℕ
bytes_of_operands row next first second =
    if is_in_text_order row
    then bytes_of_operand row.first next first ++ bytes_of_operand row.second next second
    else bytes_of_operand row.second next second ++ bytes_of_operand row.first next first

-- the bytes of an instruction at an address
unfoldable pub bytes_of : (at : ℕ) → Instruction → List ℕ
bytes_of at instruction =
    instruction.opcode
    ∷ bytes_of_operands (row_of instruction.opcode) (at + length_of instruction.opcode) instruction.first instruction.second

-- the instruction of a row with these operand bytes after its opcode, and the next one at an address
abbrev pub instruction_in : (opcode : ℕ) → OpRow → (next : ℕ) → (operands : List ℕ) → Instruction
instruction_in opcode row next operands = record {
  opcode = opcode;
  first = number_in_line row.first next (number_at (operand_bytes row.first) (drop (first_place row) operands));
  second = number_in_line row.second next (number_at (operand_bytes row.second) (drop (second_place row) operands));
}

-- the instruction at the front of bytes that stand at an address, where all its bytes are there
unfoldable pub instruction_at : (at : ℕ) → (bytes : List ℕ) → Option Instruction
instruction_at at [] = None
instruction_at at (opcode ∷ operands) =
    if nat_lt (length operands + 1) (length_of opcode) then None
    else Some (instruction_in opcode (row_of opcode) (at + length_of opcode) operands)
