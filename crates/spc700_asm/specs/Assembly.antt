-- The bytes of a source, or the first fault that it has (own).
use Rattle.std.specs.Prelude.{◌≡◌, ℕ, ◌+◌, ◌*◌, ◌&&◌, ◌||◌, not, Bool, List, [], ◌∷◌, ◌++◌, map, Option, Some, None, unwrap_or, option_and_then, Result, Ok, Err, if◌then◌else◌}
use Rattle.std.specs.Option.{option_map}
use Rattle.std.specs.List.{slice_split, flat_map}
use Rattle.num_fix.specs.Limits.{max_input}
use Rattle.spc700_table.specs.declared.Form.{Form}
use Rattle.spc700_table.specs.Opcodes.{row_of, is_distance, length_of}
use Rattle.spc700_asm.specs.declared.refusal.LineFault.{LineFault}
use Rattle.spc700_asm.specs.declared.refusal.LineFault.TheVariants as fault
use Rattle.spc700_asm.specs.declared.refusal.AsmRefusal.{AsmRefusal}
use Rattle.spc700_asm.specs.declared.refusal.AsmRefusal.TheVariants as refusal
use Rattle.spc700_asm.specs.declared.pattern.Slot.{Slot}
use Rattle.spc700_asm.specs.declared.pattern.Slot.TheVariants.{Absent, Register, Byte, Address, Target, MemoryBit, OwnBit, OwnEntry}
use Rattle.spc700_asm.specs.declared.instruction.Instruction.{Instruction}
use Rattle.spc700_asm.specs.Patterns.{pattern_of}
use Rattle.spc700_asm.specs.Instructions.{is_near, bytes_of_number, bytes_of}
use Rattle.spc700_asm.specs.Characters.{is_line_feed}
use Rattle.spc700_asm.specs.Operands.{Written, Plain, Named, Operand}
use Rattle.spc700_asm.specs.Statements.{Statement, Bytes, Words, Code, all_of, statement_of}
use Rattle.spc700_asm.specs.Labels.{Labels, size_of_line, labels_of, value_of}
use Rattle.spc700_asm.specs.Faults.{LineRefusal, first_refusal}

-- the most bytes of a source
abbrev pub max_source : ℕ
max_source = max_input

-- the number that is written, or that the name has, if it is defined
abbrev pub number_written : Labels → Written → Option ℕ
number_written labels (Plain number) = Some number
number_written labels (Named name) = value_of labels name

-- the number that is written where no name may stand
abbrev pub plain_number : Written → ℕ
plain_number (Plain number) = number
plain_number (Named name) = 0

-- the number that fills a slot
abbrev pub slot_number : Labels → Slot → Written → (bit : Option ℕ) → Option ℕ
slot_number labels Absent value bit = Some 0
slot_number labels Register value bit = Some 0
slot_number labels Byte value bit = Some (plain_number value)
slot_number labels Address value bit = number_written labels value
slot_number labels Target value bit = number_written labels value
slot_number labels MemoryBit value bit = Some (plain_number value + 0x2000 * unwrap_or bit 0)
slot_number labels (OwnBit own) value bit = Some (plain_number value)
slot_number labels (OwnEntry own) value bit = Some 0

abbrev pub operand_number : Labels → Form → Option Operand → Option ℕ
operand_number labels form None = Some 0
operand_number labels form (Some operand) = slot_number labels (pattern_of form).slot operand.value operand.bit

-- the instruction, if its names are defined
unfoldable pub instruction_written : Labels → (opcode : ℕ) → (first second : Option Operand) → Option Instruction
instruction_written labels opcode first second =
    option_and_then (λ n. option_map (λ m. record { opcode = opcode; first = n; second = m })
    (operand_number labels (row_of opcode).second second))
    (operand_number labels (row_of opcode).first first)

-- a target that no distance leads to
abbrev pub is_far_operand : Form → (next number : ℕ) → Bool
is_far_operand form next number = is_distance form && not (is_near next number)

abbrev pub is_far : (at : ℕ) → Instruction → Bool
is_far at instruction =
    let row = row_of instruction.opcode in
    let next = at + length_of instruction.opcode in
    is_far_operand row.first next instruction.first || is_far_operand row.second next instruction.second

-- the bytes of an instruction, or what is wrong with it
abbrev pub instruction_bytes : (at : ℕ) → Option Instruction → Result (List ℕ) LineFault
instruction_bytes at None = Err fault.Name
instruction_bytes at (Some instruction) = if is_far at instruction then Err fault.Far else Ok (bytes_of at instruction)

-- the bytes of numbers, if their names are defined
abbrev pub number_bytes : (count : ℕ) → Option (List ℕ) → Result (List ℕ) LineFault
number_bytes count None = Err fault.Name
number_bytes count (Some numbers) = Ok (flat_map (bytes_of_number count) numbers)

-- the bytes of a line at an address, or what is wrong with it
abbrev pub line_bytes : Labels → (at : ℕ) → Option Statement → Result (List ℕ) LineFault
line_bytes labels at (Some (Bytes numbers)) = number_bytes 1 (Some numbers)
line_bytes labels at (Some (Words words)) = number_bytes 2 (all_of (number_written labels) words)
line_bytes labels at (Some (Code opcode first second)) = instruction_bytes at (instruction_written labels opcode first second)
line_bytes labels at line = Ok []

-- bytes before others, where there is no fault
abbrev pub with_front : {E : Type 0} → (front : List ℕ) → Result (List ℕ) E → Result (List ℕ) E
with_front front (Ok bytes) = Ok (front ++ bytes)
with_front front (Err fault) = Err fault

-- the bytes of the line of a number and of the lines after it
abbrev pub line_then_lines : (number : ℕ) → Result (List ℕ) LineFault → (others : Result (List ℕ) LineRefusal) → Result (List ℕ) LineRefusal
line_then_lines number (Err fault) others = Err (record { number = number; fault = fault })
line_then_lines number (Ok bytes) others = with_front bytes others

-- the bytes of lines, the first one at an address and of a number; or the first of them that has one of the last two faults
unfoldable pub bytes_of_lines : Labels → (at number : ℕ) → (lines : List (Option Statement)) → Result (List ℕ) LineRefusal
bytes_of_lines labels at number [] = Ok []
bytes_of_lines labels at number (line ∷ lines) =
    line_then_lines number (line_bytes labels at line) (bytes_of_lines labels (at + size_of_line line) (number + 1) lines)

-- the lines of a source; an empty one after the last line feed gives nothing
unfoldable pub lines_of : (source : List ℕ) → List (Option Statement)
lines_of source = map statement_of (slice_split is_line_feed source)

abbrev pub unless_refused : Option LineRefusal → Result (List ℕ) LineRefusal → Result (List ℕ) LineRefusal
unless_refused (Some refusal) bytes = Err refusal
unless_refused None bytes = bytes

-- the bytes of lines from an origin on, or the first fault
abbrev pub assembly_of_lines : (origin : ℕ) → (lines : List (Option Statement)) → Result (List ℕ) LineRefusal
assembly_of_lines origin lines = unless_refused (first_refusal origin [] lines) (bytes_of_lines (labels_of origin lines) origin 1 lines)

-- the bytes of a source from an origin on, or the first fault
unfoldable pub assembly : (source : List ℕ) → (origin : ℕ) → Result (List ℕ) LineRefusal
assembly source origin = assembly_of_lines origin (lines_of source)

-- a source has no bytes for this, unless there is no memory
abbrev pub Refuses : AsmRefusal → Result (List ℕ) LineRefusal → Type 0
Refuses refusal.OutOfMemory bytes = Unit {0}
Refuses (refusal.Line number fault) bytes = bytes ≡ Err (record { number = number; fault = fault })
