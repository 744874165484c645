-- The addressing forms and the stack (Anomie's SPC700 Doc, the addressing modes). Each definition in -ed is the beginning
-- of a script: it makes its accesses and hands what they gave to the script that follows.
use Rattle.std.specs.Prelude.{ℕ, zero, suc, ◌+◌, ◌-◌, ◌*◌, ◌/◌, ◌%◌, if◌then◌else◌}
use Rattle.spc700_alu.specs.Flags.{P, flag}
use Rattle.spc700_table.specs.declared.Form.{Form}
use Rattle.spc700_table.specs.declared.Form.TheVariants as F
use Rattle.spc700_table.specs.declared.OpRow.{OpRow}
use Rattle.spc700_table.specs.Opcodes.{operand_bytes, is_in_text_order}
use Rattle.spc700_exec.specs.declared.cpu.Cpu.{Cpu}
use Rattle.spc700_exec.specs.declared.operand.Both.{Both}
use Rattle.spc700_exec.specs.declared.operand.Operand.{Operand}
use Rattle.spc700_exec.specs.declared.operand.Operand.TheVariants.{A, X, Y, Sp, Psw, Value, At, BitAt, Implied}
use Rattle.spc700_exec.specs.Script.{Script, Read, Write}

-- the processor with PC one further
abbrev pub with_next_pc : Cpu → Cpu
with_next_pc cpu = record cpu { pc = (cpu.pc + 1) % 0x10000 }

-- the byte at PC, and PC goes on
abbrev pub fetched : Cpu → (ℕ → Cpu → Script) → Script
fetched cpu next = Read cpu.pc (λ byte. next byte (with_next_pc cpu))

-- two bytes at PC, low then high
abbrev pub fetched_word : Cpu → (ℕ → Cpu → Script) → Script
fetched_word cpu next = fetched cpu (λ low cpu. fetched cpu (λ high cpu. next (low + 0x100 * high) cpu))

-- so many bytes at PC as a number, low byte first: none, one or two
abbrev pub fetched_bytes : (count : ℕ) → Cpu → (ℕ → Cpu → Script) → Script
fetched_bytes zero cpu next = next 0 cpu
fetched_bytes (suc zero) cpu next = fetched cpu next
fetched_bytes (suc (suc more)) cpu next = fetched_word cpu next

-- the word at two addresses, low then high
abbrev pub read_word : (low high : ℕ) → (ℕ → Script) → Script
read_word at_low at_high next = Read at_low (λ low. Read at_high (λ high. next (low + 0x100 * high)))

-- the address of a byte of the direct page: page 0, or page 1 where P is set
abbrev pub direct : Cpu → ℕ → ℕ
direct cpu d = (if flag P cpu.psw then 0x100 else 0) + d % 0x100

-- the next address, which wraps in its page: that of the high byte of a word in the direct page
abbrev pub next_in_page : ℕ → ℕ
next_in_page at = at / 0x100 * 0x100 + (at + 1) % 0x100

-- the address of the entry of TCALL's table; BRK has entry 0
abbrev pub call_entry : ℕ → ℕ
call_entry n = 0xffde - 2 * n

-- the operand that a form names by the bytes after the opcode; those of a pointer are read
abbrev pub named : Form → (bytes : ℕ) → Cpu → (Operand → Cpu → Script) → Script
named F.A bytes cpu next = next A cpu
named F.X bytes cpu next = next X cpu
named F.Y bytes cpu next = next Y cpu
named F.Sp bytes cpu next = next Sp cpu
named F.Psw bytes cpu next = next Psw cpu
named F.Ya bytes cpu next = next Implied cpu
named F.Carry bytes cpu next = next Implied cpu
named F.None bytes cpu next = next Implied cpu
named F.Imm i cpu next = next (Value i) cpu
named F.Rel r cpu next = next (Value r) cpu
named F.Direct d cpu next = next (At (direct cpu d)) cpu
named F.DirectX d cpu next = next (At (direct cpu (d + cpu.x))) cpu
named F.DirectY d cpu next = next (At (direct cpu (d + cpu.y))) cpu
named F.Abs a cpu next = next (At a) cpu
named F.AbsX a cpu next = next (At ((a + cpu.x) % 0x10000)) cpu
named F.AbsY a cpu next = next (At ((a + cpu.y) % 0x10000)) cpu
named F.PtrX bytes cpu next = next (At (direct cpu cpu.x)) cpu
named F.PtrY bytes cpu next = next (At (direct cpu cpu.y)) cpu
named F.PtrXInc bytes cpu next = next (At (direct cpu cpu.x)) (record cpu { x = (cpu.x + 1) % 0x100 })
named F.IndX d cpu next =
    let pointer = direct cpu (d + cpu.x) in
    read_word pointer (next_in_page pointer) (λ a. next (At a) cpu)
named F.IndY d cpu next =
    let pointer = direct cpu d in
    read_word pointer (next_in_page pointer) (λ a. next (At ((a + cpu.y) % 0x10000)) cpu)
named F.AbsPtrX a cpu next = read_word ((a + cpu.x) % 0x10000) ((a + cpu.x + 1) % 0x10000) (λ a. next (At a) cpu)
named F.Bit m cpu next = next (BitAt (m % 0x2000) (m / 0x2000)) cpu
named F.NotBit m cpu next = next (BitAt (m % 0x2000) (m / 0x2000)) cpu
named (F.DirectBit bit) d cpu next = next (BitAt (direct cpu d) bit) cpu
named F.Upper u cpu next = next (At (0xff00 + u)) cpu
named (F.Table n) bytes cpu next = next (At (call_entry n)) cpu

-- the operand bytes of a form and then its pointer bytes are read; it gives the operand
abbrev pub addressed : Form → Cpu → (Operand → Cpu → Script) → Script
addressed form cpu next = fetched_bytes (operand_bytes form) cpu (λ bytes cpu. named form bytes cpu next)

-- both operands of an instruction, in the order in which their bytes stand
unfoldable pub both_addressed : OpRow → Cpu → (Both → Cpu → Script) → Script
both_addressed row cpu next =
    if is_in_text_order row
    then addressed row.first cpu (λ first cpu. addressed row.second cpu (λ second cpu. next (record { first = first; second = second }) cpu))
    else addressed row.second cpu (λ second cpu. addressed row.first cpu (λ first cpu. next (record { first = first; second = second }) cpu))

-- the byte of an operand
abbrev pub loaded : Operand → Cpu → (ℕ → Script) → Script
loaded A cpu next = next cpu.a
loaded X cpu next = next cpu.x
loaded Y cpu next = next cpu.y
loaded Sp cpu next = next cpu.sp
loaded Psw cpu next = next cpu.psw
loaded (Value byte) cpu next = next byte
loaded (At at) cpu next = Read at next
loaded (BitAt at bit) cpu next = Read at next
loaded Implied cpu next = next 0

-- a byte put into an operand
abbrev pub stored : Operand → (value : ℕ) → Cpu → (Cpu → Script) → Script
stored A value cpu next = next (record cpu { a = value })
stored X value cpu next = next (record cpu { x = value })
stored Y value cpu next = next (record cpu { y = value })
stored Sp value cpu next = next (record cpu { sp = value })
stored Psw value cpu next = next (record cpu { psw = value })
stored (At at) value cpu next = Write at value (next cpu)
stored (BitAt at bit) value cpu next = Write at value (next cpu)
stored (Value byte) value cpu next = next cpu
stored Implied value cpu next = next cpu

-- the address and the bit of an operand in memory; no instruction asks one of the others
abbrev pub address_of : Operand → ℕ
address_of (At at) = at
address_of (BitAt at bit) = at
address_of _ = 0

abbrev pub bit_of : Operand → ℕ
bit_of (BitAt at bit) = bit
bit_of _ = 0

-- the word of an operand: its low byte, then its high byte
abbrev pub loaded_word : Operand → (ℕ → Script) → Script
loaded_word operand next = read_word (address_of operand) (next_in_page (address_of operand)) next

-- a word put there, low byte then high byte
abbrev pub stored_word : Operand → (value : ℕ) → Script → Script
stored_word operand value next =
    Write (address_of operand) (value % 0x100) (Write (next_in_page (address_of operand)) (value / 0x100) next)

-- the stack pointer after a byte was pushed, and after one was popped
abbrev pub sp_after_push : ℕ → ℕ
sp_after_push sp = (sp + 0x100 - 1) % 0x100

abbrev pub sp_after_pop : ℕ → ℕ
sp_after_pop sp = (sp + 1) % 0x100

-- a byte pushed on the stack, which is page 1
abbrev pub pushed : (value : ℕ) → Cpu → (Cpu → Script) → Script
pushed value cpu next = Write (0x100 + cpu.sp) value (next (record cpu { sp = sp_after_push cpu.sp }))

-- a byte popped
abbrev pub popped : Cpu → (ℕ → Cpu → Script) → Script
popped cpu next =
    let sp = sp_after_pop cpu.sp in
    Read (0x100 + sp) (λ value. next value (record cpu { sp = sp }))

-- a word pushed, high then low
abbrev pub pushed_word : (value : ℕ) → Cpu → (Cpu → Script) → Script
pushed_word value cpu next = pushed (value / 0x100) cpu (λ cpu. pushed (value % 0x100) cpu next)

-- a word popped, low then high
abbrev pub popped_word : Cpu → (ℕ → Cpu → Script) → Script
popped_word cpu next = popped cpu (λ low cpu. popped cpu (λ high cpu. next (low + 0x100 * high) cpu))
