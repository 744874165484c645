-- Which accesses an instruction makes after its opcode, in order, whatever the bytes: each with its role and its address. This
-- table is this project's own. It shares with the lines of the scripts the words for a byte of the direct page, for the next byte in
-- its page, for an entry of TCALL's table and for the stack pointer, and knows nothing else of how these are written.
use Rattle.std.specs.Prelude.{◌≡◌, ◌⊎◌, ℕ, ◌+◌, ◌*◌, ◌%◌, List, [], ◌∷◌, ◌++◌, replicate, Bool, true, false, if◌then◌else◌}
use Rattle.spc700_table.specs.declared.Form.{Form}
use Rattle.spc700_table.specs.declared.Form.TheVariants.{None, A, X, Y, Ya, Psw, Sp, Carry, Imm, Direct, DirectX, DirectY, Abs, AbsX, AbsY, PtrX, PtrY, PtrXInc, IndX, IndY, AbsPtrX, Bit, NotBit, DirectBit, Rel, Upper, Table}
use Rattle.spc700_table.specs.declared.OpRow.{OpRow}
use Rattle.spc700_table.specs.Opcodes.{operand_bytes}
use Rattle.spc700_exec.specs.declared.cpu.Cpu.{Cpu}
use Rattle.spc700_exec.specs.Script.{Script, Read, Write, End, Time, Cycles, ToSample}
use Rattle.spc700_exec.specs.Operands.{direct, next_in_page, call_entry, sp_after_push, sp_after_pop}
use Rattle.spc700_exec.specs.Operations.{Operation, operation_of, OnStatus, OnA, OnYa, Branch, BitBranch, CompareBranch, CountBranch, Move, Calculate, Compare, Modify, BitToCarry, BitInPlace, BitTest, WordOnYa, WordStore, WordModify, Push, Pop, Jump, Call, TableCall, Break, Return, InterruptReturn, Halt}

-- the two operands of a row
pub data Side : Type 0 where
  First : Side
  Second : Side

-- the role of an access
pub data Access : Type 0 where
  -- reads of the next byte of an operand in the instruction, and of the next byte of its pointer, low then high
  OperandRead : Side → Access
  PointerRead : Side → Access
  -- a read of an operand's byte as a source, and of the high byte of its word
  SourceRead : Side → Access
  SourceReadHigh : Side → Access
  -- a write of an operand's byte as the destination, and of the high byte of its word
  DestinationWrite : Side → Access
  DestinationWriteHigh : Side → Access
  -- a byte pushed on the stack, and one popped
  StackWrite : Access
  StackRead : Access
  -- reads of an entry of the table of calls, low then high
  VectorRead : Access
  VectorReadHigh : Access

abbrev pub is_write : Access → Bool
is_write (OperandRead side) = false
is_write (PointerRead side) = false
is_write (SourceRead side) = false
is_write (SourceReadHigh side) = false
is_write (DestinationWrite side) = true
is_write (DestinationWriteHigh side) = true
is_write StackWrite = true
is_write StackRead = false
is_write VectorRead = false
is_write VectorReadHigh = false

-- how far an instruction has come: the address of its next byte, the stack pointer, and the bytes that were read for each
-- operand, those of the instruction and then those of a pointer
pub record Progress : Type 0 where
  pub pc : ℕ
  pub sp : ℕ
  pub first : List ℕ
  pub second : List ℕ

abbrev pub begun : Cpu → Progress
begun cpu = record { pc = cpu.pc; sp = cpu.sp; first = []; second = [] }

abbrev pub bytes_of : Side → Progress → List ℕ
bytes_of First p = p.first
bytes_of Second p = p.second

abbrev pub with_bytes : Side → List ℕ → Progress → Progress
with_bytes First bytes p = record p { first = bytes }
with_bytes Second bytes p = record p { second = bytes }

-- the progress after an access and its byte
abbrev pub after_access : Access → (byte : ℕ) → Progress → Progress
after_access (OperandRead side) byte p =
    with_bytes side (bytes_of side p ++ byte ∷ []) (record p { pc = (p.pc + 1) % 0x10000 })
after_access (PointerRead side) byte p = with_bytes side (bytes_of side p ++ byte ∷ []) p
after_access StackWrite byte p = record p { sp = sp_after_push p.sp }
after_access StackRead byte p = record p { sp = sp_after_pop p.sp }
after_access _ byte p = p

-- the address of the next byte of a pointer: in the direct page, or for JMP !abs+X in all of memory
abbrev pub pointer_address : Form → Cpu → (bytes : List ℕ) → ℕ
pointer_address IndX cpu (d ∷ []) = direct cpu (d + cpu.x)
pointer_address IndX cpu (d ∷ low ∷ []) = next_in_page (direct cpu (d + cpu.x))
pointer_address IndY cpu (d ∷ []) = direct cpu d
pointer_address IndY cpu (d ∷ low ∷ []) = next_in_page (direct cpu d)
pointer_address AbsPtrX cpu (low ∷ high ∷ []) = (low + 0x100 * high + cpu.x) % 0x10000
pointer_address AbsPtrX cpu (low ∷ high ∷ byte ∷ []) = (low + 0x100 * high + cpu.x + 1) % 0x10000
pointer_address _ cpu _ = 0

-- the address of the byte of a form, by the registers and the bytes that were read for it
abbrev pub byte_address : Form → Cpu → (bytes : List ℕ) → ℕ
byte_address Direct cpu (d ∷ []) = direct cpu d
byte_address DirectX cpu (d ∷ []) = direct cpu (d + cpu.x)
byte_address DirectY cpu (d ∷ []) = direct cpu (d + cpu.y)
byte_address Abs cpu (low ∷ high ∷ []) = low + 0x100 * high
byte_address AbsX cpu (low ∷ high ∷ []) = (low + 0x100 * high + cpu.x) % 0x10000
byte_address AbsY cpu (low ∷ high ∷ []) = (low + 0x100 * high + cpu.y) % 0x10000
byte_address PtrX cpu [] = direct cpu cpu.x
byte_address PtrY cpu [] = direct cpu cpu.y
byte_address PtrXInc cpu [] = direct cpu cpu.x
byte_address IndX cpu (d ∷ low ∷ high ∷ []) = low + 0x100 * high
byte_address IndY cpu (d ∷ low ∷ high ∷ []) = (low + 0x100 * high + cpu.y) % 0x10000
byte_address AbsPtrX cpu (at_low ∷ at_high ∷ low ∷ high ∷ []) = low + 0x100 * high
byte_address Bit cpu (low ∷ high ∷ []) = (low + 0x100 * high) % 0x2000
byte_address NotBit cpu (low ∷ high ∷ []) = (low + 0x100 * high) % 0x2000
byte_address (DirectBit bit) cpu (d ∷ []) = direct cpu d
byte_address Upper cpu (byte ∷ []) = 0xff00 + byte
byte_address (Table n) cpu [] = call_entry n
byte_address _ cpu _ = 0

abbrev pub form_of : Side → OpRow → Form
form_of First row = row.first
form_of Second row = row.second

-- the entry of the table of calls: TCALL's number, and 0 for BRK
abbrev pub entry_number : Form → ℕ
entry_number (Table n) = n
entry_number _ = 0

-- the address of the next access, by the registers after the opcode
abbrev pub access_address : OpRow → Cpu → Progress → Access → ℕ
access_address row cpu p (OperandRead side) = p.pc
access_address row cpu p (PointerRead side) = pointer_address (form_of side row) cpu (bytes_of side p)
access_address row cpu p (SourceRead side) = byte_address (form_of side row) cpu (bytes_of side p)
access_address row cpu p (SourceReadHigh side) = next_in_page (byte_address (form_of side row) cpu (bytes_of side p))
access_address row cpu p (DestinationWrite side) = byte_address (form_of side row) cpu (bytes_of side p)
access_address row cpu p (DestinationWriteHigh side) = next_in_page (byte_address (form_of side row) cpu (bytes_of side p))
access_address row cpu p StackWrite = 0x100 + p.sp
access_address row cpu p StackRead = 0x100 + sp_after_pop p.sp
access_address row cpu p VectorRead = call_entry (entry_number row.first)
access_address row cpu p VectorReadHigh = next_in_page (call_entry (entry_number row.first))

-- the cycles of an instruction are one of the two counts of its row, or those to the next sample
abbrev pub IsTimeOf : OpRow → Time → Type 0
IsTimeOf row (Cycles n) = (n ≡ row.cycles) ⊎ (n ≡ row.taken)
IsTimeOf row ToSample = Unit {0}

-- an access is of this kind, read or write, and at this address
abbrev pub IsAccessAt : OpRow → Cpu → Progress → Access → (writes : Bool) → (at : ℕ) → Type 0
IsAccessAt row cpu p access writes at = (is_write access ≡ writes) × (at ≡ access_address row cpu p access)

-- a script makes exactly these accesses, each at its address, and then has cycles of the row
abbrev pub Makes : OpRow → Cpu → Progress → List Access → Script → Type 0
Makes row cpu p [] (End after time) = IsTimeOf row time
Makes row cpu p [] (Read at next) = ⊥
Makes row cpu p [] (Write at value next) = ⊥
Makes row cpu p (access ∷ accesses) (End after time) = ⊥
Makes row cpu p (access ∷ accesses) (Read at next) =
    IsAccessAt row cpu p access false at × ((byte : ℕ) → Makes row cpu (after_access access byte p) accesses (next byte))
Makes row cpu p (access ∷ accesses) (Write at value next) =
    IsAccessAt row cpu p access true at × Makes row cpu (after_access access value p) accesses next

-- the pointer bytes of the three indirect forms
abbrev pub pointer_bytes : Form → ℕ
pointer_bytes IndX = 2
pointer_bytes IndY = 2
pointer_bytes AbsPtrX = 2
pointer_bytes _ = 0

-- the reads that find an operand: its bytes in the instruction, and its pointer
abbrev pub operand_reads : Side → Form → List Access
operand_reads side form = replicate (operand_bytes form) (OperandRead side) ++ replicate (pointer_bytes form) (PointerRead side)

-- Those of both operands. The bytes of the source, the second operand, stand before those of the destination; but the distance of
-- a relative branch stands last.
abbrev pub source_first : OpRow → List Access
source_first row = operand_reads Second row.second ++ operand_reads First row.first

abbrev pub distance_last : OpRow → List Access
distance_last row = operand_reads First row.first ++ operand_reads Second row.second

-- whether the byte of a form stands in memory; else it is a register, or came with the operand bytes
abbrev pub in_memory : Form → Bool
in_memory Direct = true
in_memory DirectX = true
in_memory DirectY = true
in_memory Abs = true
in_memory AbsX = true
in_memory AbsY = true
in_memory PtrX = true
in_memory PtrY = true
in_memory PtrXInc = true
in_memory IndX = true
in_memory IndY = true
in_memory AbsPtrX = true
in_memory Bit = true
in_memory NotBit = true
in_memory (DirectBit bit) = true
in_memory Upper = true
in_memory (Table n) = true
in_memory None = false
in_memory A = false
in_memory X = false
in_memory Y = false
in_memory Ya = false
in_memory Psw = false
in_memory Sp = false
in_memory Carry = false
in_memory Imm = false
in_memory Rel = false

-- an access of an operand's byte, where that stands in memory
abbrev pub if_in_memory : Form → Access → List Access
if_in_memory form access = if in_memory form then access ∷ [] else []

-- the byte of an operand read, and written
abbrev pub source : Side → OpRow → List Access
source side row = if_in_memory (form_of side row) (SourceRead side)

abbrev pub destination : OpRow → List Access
destination row = if_in_memory row.first (DestinationWrite First)

-- the accesses of an operation after the opcode
abbrev pub accesses_of : Operation → OpRow → List Access
accesses_of (OnStatus change) row = []
accesses_of (OnA change) row = []
accesses_of (OnYa change) row = []
accesses_of (Branch condition) row = operand_reads First row.first
accesses_of (BitBranch on) row = distance_last row ++ (source First row ++ source Second row)
accesses_of CompareBranch row = distance_last row ++ (source First row ++ source Second row)
accesses_of CountBranch row = distance_last row ++ (source First row ++ (source Second row ++ destination row))
accesses_of Move row = source_first row ++ (source Second row ++ destination row)
accesses_of (Calculate calculate) row = source_first row ++ (source Second row ++ (source First row ++ destination row))
accesses_of Compare row = source_first row ++ (source Second row ++ source First row)
accesses_of (Modify change) row = operand_reads First row.first ++ (source First row ++ destination row)
accesses_of (BitToCarry kind) row = operand_reads Second row.second ++ source Second row
accesses_of (BitInPlace kind) row = operand_reads First row.first ++ (source First row ++ destination row)
accesses_of (BitTest change) row = operand_reads First row.first ++ (source First row ++ destination row)
accesses_of (WordOnYa calculate) row = operand_reads Second row.second ++ SourceRead Second ∷ SourceReadHigh Second ∷ []
accesses_of WordStore row = operand_reads First row.first ++ DestinationWrite First ∷ DestinationWriteHigh First ∷ []
accesses_of (WordModify change) row =
    operand_reads First row.first
    ++ SourceRead First ∷ SourceReadHigh First ∷ DestinationWrite First ∷ DestinationWriteHigh First ∷ []
accesses_of Push row = StackWrite ∷ []
accesses_of Pop row = StackRead ∷ []
accesses_of Jump row = operand_reads First row.first
accesses_of Call row = operand_reads First row.first ++ StackWrite ∷ StackWrite ∷ []
accesses_of TableCall row = StackWrite ∷ StackWrite ∷ VectorRead ∷ VectorReadHigh ∷ []
accesses_of Break row = StackWrite ∷ StackWrite ∷ StackWrite ∷ VectorRead ∷ VectorReadHigh ∷ []
accesses_of Return row = StackRead ∷ StackRead ∷ []
accesses_of InterruptReturn row = StackRead ∷ StackRead ∷ StackRead ∷ []
accesses_of Halt row = []

-- the accesses of a row's instruction after its opcode
abbrev pub row_accesses : OpRow → List Access
row_accesses row = accesses_of (operation_of row.kind row.first row.second) row
