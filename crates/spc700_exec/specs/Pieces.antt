-- Words of the contracts of the parts of a step. The promise on a step doesn't speak of them.
use Rattle.std.specs.Prelude.{◌≡◌, ℕ, ◌+◌, ◌-◌, ◌*◌, ◌/◌, ◌%◌, ◌<◌, ◌≤◌, length, Option, Some, None, Bool, true, false}
use Rattle.spc700_table.specs.declared.Form.{Form}
use Rattle.spc700_table.specs.declared.Form.TheVariants as F
use Rattle.spc700_table.specs.declared.Kind.{Kind}
use Rattle.spc700_table.specs.declared.Kind.TheVariants as K
use Rattle.spc700_table.specs.declared.OpRow.{OpRow}
use Rattle.spc700_exec.specs.declared.cpu.Cpu.{Cpu}
use Rattle.spc700_exec.specs.declared.operand.Operand.{Operand}
use Rattle.spc700_exec.specs.declared.operand.Operand.TheVariants.{BitAt}
use Rattle.spc700_exec.specs.Bus.{BusMeaning, max_calls, max_samples_of_bus, byte_read, after_read, after_write}
use Rattle.spc700_exec.specs.Accesses.{row_accesses}
use Rattle.spc700_exec.specs.declared.operand.Pointer.{Pointer}
use Rattle.spc700_exec.specs.Operands.{direct, next_in_page, sp_after_push}
use Rattle.spc700_exec.specs.Instruction.{instruction}
use Rattle.spc700_exec.specs.Script.{Script, Read, Write, End, cycles_at, after_rest, outcome}
use Rattle.spc700_exec.specs.declared.bus.TheConstants.{CYCLES_PER_SAMPLE}

-- the outcome of a script, where the accesses made so far are reported by the clock: for a lawful bus the same as `outcome`
abbrev pub outcome_by_clock : {S : Type 0} → BusMeaning S → (start : ℕ) → Script → S → Cpu × S
outcome_by_clock bus start (Read at next) s = outcome_by_clock bus start (next (byte_read bus at s)) (after_read bus at s)
outcome_by_clock bus start (Write at value next) s = outcome_by_clock bus start next (after_write bus at value s)
outcome_by_clock bus start (End cpu time) s = (cpu, after_rest bus (cycles_at start time) (bus.clock s - start) s)

-- the beginning of a script hands on a value and registers: whatever follows goes on from there
abbrev pub Gives : {S X : Type 0} → BusMeaning S → ((X → Cpu → Script) → Script) → S → X → Cpu → S → Type 0
Gives {S} {X} bus part old value cpu new =
    (start : ℕ) (next : X → Cpu → Script) → outcome_by_clock bus start (part next) old ≡ outcome_by_clock bus start (next value cpu) new

-- the same for a beginning that hands on a value alone, and for one that hands on registers alone
abbrev pub GivesValue : {S X : Type 0} → BusMeaning S → ((X → Script) → Script) → S → X → S → Type 0
GivesValue {S} {X} bus part old value new =
    (start : ℕ) (next : X → Script) → outcome_by_clock bus start (part next) old ≡ outcome_by_clock bus start (next value) new

abbrev pub GivesCpu : {S : Type 0} → BusMeaning S → ((Cpu → Script) → Script) → S → Cpu → S → Type 0
GivesCpu bus part old cpu new =
    (start : ℕ) (next : Cpu → Script) → outcome_by_clock bus start (part next) old ≡ outcome_by_clock bus start (next cpu) new

-- a script leads to these registers and, once the rest of these cycles has passed, to this bus
abbrev pub Does : {S : Type 0} → BusMeaning S → Script → S → Cpu → (cycles : ℕ) → S → Type 0
Does bus script old cpu cycles new =
    (start : ℕ) → outcome_by_clock bus start script old ≡ (cpu, after_rest bus cycles (bus.clock new - start) new)

-- the word that two reads give, low then high, and the bus after them
abbrev pub word_read : {S : Type 0} → BusMeaning S → (low high : ℕ) → S → ℕ
word_read bus low high s = byte_read bus low s + 0x100 * byte_read bus high (after_read bus low s)

abbrev pub after_word : {S : Type 0} → BusMeaning S → (low high : ℕ) → S → S
after_word bus low high s = after_read bus high (after_read bus low s)

-- the pointer at an address, whose high byte is at the next address of its page
abbrev pub in_page : (at : ℕ) → Pointer
in_page at = record { low = at; high = next_in_page at }

-- the pointer of a form that has one, by the bytes after the opcode
abbrev pub pointer_of : Form → (bytes : ℕ) → Cpu → Option Pointer
pointer_of F.IndX d cpu = Some (in_page (direct cpu (d + cpu.x)))
pointer_of F.IndY d cpu = Some (in_page (direct cpu d))
pointer_of F.AbsPtrX a cpu = Some (record { low = (a + cpu.x) % 0x10000; high = (a + cpu.x + 1) % 0x10000 })
pointer_of _ bytes cpu = None

-- the word of a pointer, or the bytes after the opcode where there is none, and the bus after it was read
abbrev pub word_followed : {S : Type 0} → BusMeaning S → Option Pointer → (bytes : ℕ) → S → ℕ
word_followed bus (Some pointer) bytes s = word_read bus pointer.low pointer.high s
word_followed bus None bytes s = bytes

abbrev pub after_pointer : {S : Type 0} → BusMeaning S → Option Pointer → S → S
after_pointer bus (Some pointer) s = after_word bus pointer.low pointer.high s
after_pointer bus None s = s

-- the bus after a word was written, low then high
abbrev pub after_word_write : {S : Type 0} → BusMeaning S → (low high value : ℕ) → S → S
after_word_write bus low high value s = after_write bus high (value / 0x100) (after_write bus low (value % 0x100) s)

-- the bus after a word was pushed at a stack pointer, high then low
abbrev pub after_word_push : {S : Type 0} → BusMeaning S → (sp value : ℕ) → S → S
after_word_push bus sp value s =
    after_write bus (0x100 + sp_after_push sp) (value % 0x100) (after_write bus (0x100 + sp) (value / 0x100) s)

-- n more accesses and a pass may be made
pub record HasAccessesLeft {S : Type 0} (n : ℕ) (bus : BusMeaning S) (s : S) : Type 0 where
  pub calls : bus.calls s + 2 * n < max_calls
  pub samples : bus.clock s + n < CYCLES_PER_SAMPLE * max_samples_of_bus

-- at most n accesses, each with its cycle, lie between two states of a bus
pub record IsWithin {S : Type 0} (n : ℕ) (bus : BusMeaning S) (old new : S) : Type 0 where
  pub calls : bus.calls new ≤ bus.calls old + 2 * n
  pub least : bus.clock old ≤ bus.clock new
  pub most : bus.clock new ≤ bus.clock old + n

-- the number of a TCALL is at most 15, and a bit at most 7
abbrev pub FormFits : Form → Type 0
FormFits (F.Table n) = n < 16
FormFits (F.DirectBit bit) = bit < 8
FormFits _ = Unit {0}

-- the bit of an operand is at most 7
abbrev pub OperandFits : Operand → Type 0
OperandFits (BitAt at bit) = bit < 8
OperandFits _ = Unit {0}

-- the kinds that halt the processor
abbrev pub halts : Kind → Bool
halts K.Sleep = true
halts K.Stop = true
halts _ = false

-- a row of an instruction that doesn't halt
pub record IsRow (row : OpRow) : Type 0 where
  pub first : FormFits row.first
  pub second : FormFits row.second
  pub some : 1 ≤ row.cycles
  pub more : row.cycles ≤ row.taken
  pub few : row.taken ≤ 12

-- the accesses of a row's instruction, the read of its opcode among them
abbrev pub access_count : OpRow → ℕ
access_count row = length (row_accesses row) + 1

-- the cycles of an instruction lie between those of its row
pub record IsTime (row : OpRow) (cycles : ℕ) : Type 0 where
  pub least : row.cycles ≤ cycles
  pub most : cycles ≤ row.taken

-- the accesses of an instruction, whose script this is, were made, and these are its cycles, 1 to 12, of which its accesses passed 11 at most
pub record IsInstruction {S : Type 0} (bus : BusMeaning S) (script : Script) (old : S) (cpu : Cpu) (cycles : ℕ) (new : S) : Type 0 where
  pub does : Does bus script old cpu cycles new
  pub some : 1 ≤ cycles
  pub few : cycles ≤ 12
  pub within : IsWithin 11 bus old new

-- an instruction whose opcode was read led to these registers and, with the rest of its cycles passed, to this bus
pub record IsWholeInstruction {S : Type 0} (bus : BusMeaning S) (row : OpRow) (old_cpu : Cpu) (old : S) (cpu : Cpu) (new : S) : Type 0 where
  pub leads : (start : ℕ) → bus.clock old ≡ start + 1 → outcome bus start 1 (instruction row old_cpu) old ≡ (cpu, new)
