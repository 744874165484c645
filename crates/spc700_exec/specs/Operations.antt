-- What each kind of instruction does (Anomie's SPC700 Doc, the instruction list; that SLEEP and STOP halt for good is own): one table of
-- all kinds. An operation says which accesses are made and in what order; it carries the arithmetic, the condition or the flag in which
-- its kinds differ.
use Rattle.std.specs.Prelude.{ℕ, ◌+◌, ◌-◌, ◌*◌, ◌/◌, ◌%◌, bit_and, bit_or, Bool, true, false, not}
use Rattle.spc700_alu.specs.declared.Out8.{Out8}
use Rattle.spc700_alu.specs.declared.Out16.{Out16}
use Rattle.spc700_alu.specs.declared.bytes.LogicKind.TheVariants as Logic
use Rattle.spc700_alu.specs.declared.bytes.ShiftKind.TheVariants as Shift
use Rattle.spc700_alu.specs.declared.bits.BitKind.{BitKind}
use Rattle.spc700_alu.specs.declared.bits.BitKind.TheVariants as Bit
use Rattle.spc700_alu.specs.Flags.{N, V, P, H, I, Z, C, flag, with_flag, with_nz16}
use Rattle.spc700_alu.specs.Bytes.{nz_result, adc_of, sbc_of, logic_of, shift_of, bump_of}
use Rattle.spc700_alu.specs.WordArithmetic.{addw_of, subw_of, cmpw_of, mul_of, div_of}
use Rattle.spc700_alu.specs.Decimal.{daa_of, das_of}
use Rattle.spc700_table.specs.declared.Form.{Form}
use Rattle.spc700_table.specs.declared.Form.TheVariants as F
use Rattle.spc700_table.specs.declared.Kind.{Kind}
use Rattle.spc700_table.specs.declared.Kind.TheVariants as K
use Rattle.spc700_exec.specs.declared.cpu.Cpu.{Cpu}

pub data Operation : Type 0 where
  -- a new status
  OnStatus : (ℕ → ℕ) → Operation
  -- a new A and status, of the old ones
  OnA : (ℕ → ℕ → Out8) → Operation
  -- a new YA and status
  OnYa : (Cpu → Out16) → Operation
  -- a branch where the status says so
  Branch : (ℕ → Bool) → Operation
  -- a branch where a bit of memory is set, or where it is clear
  BitBranch : Bool → Operation
  -- a branch where A differs from a byte
  CompareBranch : Operation
  -- a byte less 1, and a branch where it isn't 0 then
  CountBranch : Operation
  -- a byte moved
  Move : Operation
  -- the result of a byte and another, put in its place, with the status
  Calculate : (ℕ → ℕ → ℕ → Out8) → Operation
  -- the status of a comparison
  Compare : Operation
  -- a byte read, changed and written, with the status
  Modify : (ℕ → ℕ → Out8) → Operation
  -- the result of a bit of memory and the carry, put into the carry or into its place
  BitToCarry : BitKind → Operation
  BitInPlace : BitKind → Operation
  -- a byte of memory changed by A; N and Z of A less the old byte
  BitTest : (ℕ → ℕ → ℕ) → Operation
  -- the result of a word and YA, with the status
  WordOnYa : (ℕ → ℕ → ℕ → Out16) → Operation
  -- YA moved to memory
  WordStore : Operation
  -- a word read, changed and written; N and Z on 16 bits
  WordModify : (ℕ → ℕ) → Operation
  -- the stack
  Push : Operation
  Pop : Operation
  -- jumps and calls: to an address, through the table, and through its entry 0 with the status pushed
  Jump : Operation
  Call : Operation
  TableCall : Operation
  Break : Operation
  -- returns, without and with the status
  Return : Operation
  InterruptReturn : Operation
  -- the processor halts for good
  Halt : Operation

-- whether a flag is set, or whether it is clear
abbrev pub flag_is : (mask : ℕ) → Bool → (psw : ℕ) → Bool
flag_is mask true psw = flag mask psw
flag_is mask false psw = not (flag mask psw)

-- XCN: the digits of A change places. N and Z
abbrev pub xcn_of : (a psw : ℕ) → Out8
xcn_of a psw = nz_result (a % 0x10 * 0x10 + a / 0x10) psw

-- Y and A as one word
abbrev pub ya : Cpu → ℕ
ya cpu = 0x100 * cpu.y + cpu.a

-- MOVW YA,d: N and Z on 16 bits. CMPW: YA stays
abbrev pub movw_of : (ya w psw : ℕ) → Out16
movw_of ya w psw = record { value = w; psw = with_nz16 w psw }

abbrev pub kept_after_cmpw : (ya w psw : ℕ) → Out16
kept_after_cmpw ya w psw = record { value = ya; psw = cmpw_of ya w psw }

-- the operation on a bit m.b, and that on its complement /m.b
abbrev pub by_complement : (form : Form) → (complement plain : BitKind) → BitKind
by_complement F.NotBit complement plain = complement
by_complement _ complement plain = plain

-- MOV1 goes to the carry or to memory, and MOVW to YA or to memory, by the first operand
abbrev pub mov1_by : (first : Form) → Operation
mov1_by F.Carry = BitToCarry Bit.Load
mov1_by _ = BitInPlace Bit.Store

abbrev pub movw_by : (first : Form) → Operation
movw_by F.Ya = WordOnYa movw_of
movw_by _ = WordStore

abbrev pub operation_of : Kind → (first second : Form) → Operation
operation_of K.Nop first second = OnStatus (λ psw. psw)
operation_of K.Clrp first second = OnStatus (with_flag P false)
operation_of K.Setp first second = OnStatus (with_flag P true)
operation_of K.Clrc first second = OnStatus (with_flag C false)
operation_of K.Setc first second = OnStatus (with_flag C true)
operation_of K.Notc first second = OnStatus (λ psw. with_flag C (not (flag C psw)) psw)
operation_of K.Ei first second = OnStatus (with_flag I true)
operation_of K.Di first second = OnStatus (with_flag I false)
operation_of K.Clrv first second = OnStatus (λ psw. with_flag H false (with_flag V false psw))
operation_of K.Xcn first second = OnA xcn_of
operation_of K.Daa first second = OnA daa_of
operation_of K.Das first second = OnA das_of
operation_of K.Mul first second = OnYa (λ cpu. mul_of cpu.y cpu.a cpu.psw)
operation_of K.Div first second = OnYa (λ cpu. div_of (ya cpu) cpu.x cpu.psw)
operation_of K.Bra first second = Branch (λ psw. true)
operation_of K.Bpl first second = Branch (flag_is N false)
operation_of K.Bmi first second = Branch (flag_is N true)
operation_of K.Bvc first second = Branch (flag_is V false)
operation_of K.Bvs first second = Branch (flag_is V true)
operation_of K.Bcc first second = Branch (flag_is C false)
operation_of K.Bcs first second = Branch (flag_is C true)
operation_of K.Bne first second = Branch (flag_is Z false)
operation_of K.Beq first second = Branch (flag_is Z true)
operation_of K.Bbs first second = BitBranch true
operation_of K.Bbc first second = BitBranch false
operation_of K.Cbne first second = CompareBranch
operation_of K.Dbnz first second = CountBranch
operation_of K.Mov first second = Move
operation_of K.Or first second = Calculate (logic_of Logic.Or)
operation_of K.And first second = Calculate (logic_of Logic.And)
operation_of K.Eor first second = Calculate (logic_of Logic.Eor)
operation_of K.Adc first second = Calculate adc_of
operation_of K.Sbc first second = Calculate sbc_of
operation_of K.Cmp first second = Compare
operation_of K.Asl first second = Modify (shift_of Shift.Asl)
operation_of K.Rol first second = Modify (shift_of Shift.Rol)
operation_of K.Lsr first second = Modify (shift_of Shift.Lsr)
operation_of K.Ror first second = Modify (shift_of Shift.Ror)
operation_of K.Inc first second = Modify (λ v psw. bump_of v true psw)
operation_of K.Dec first second = Modify (λ v psw. bump_of v false psw)
operation_of K.Or1 first second = BitToCarry (by_complement second Bit.OrNot Bit.Or)
operation_of K.And1 first second = BitToCarry (by_complement second Bit.AndNot Bit.And)
operation_of K.Eor1 first second = BitToCarry Bit.Eor
operation_of K.Mov1 first second = mov1_by first
operation_of K.Not1 first second = BitInPlace Bit.Not
operation_of K.Set1 first second = BitInPlace Bit.Set
operation_of K.Clr1 first second = BitInPlace Bit.Clear
operation_of K.Tset1 first second = BitTest (λ byte a. bit_or byte a)
operation_of K.Tclr1 first second = BitTest (λ byte a. bit_and byte (0xff - a))
operation_of K.Movw first second = movw_by first
operation_of K.Addw first second = WordOnYa addw_of
operation_of K.Subw first second = WordOnYa subw_of
operation_of K.Cmpw first second = WordOnYa kept_after_cmpw
operation_of K.Incw first second = WordModify (λ w. (w + 1) % 0x10000)
operation_of K.Decw first second = WordModify (λ w. (w + 0x10000 - 1) % 0x10000)
operation_of K.Push first second = Push
operation_of K.Pop first second = Pop
operation_of K.Jmp first second = Jump
operation_of K.Call first second = Call
operation_of K.Pcall first second = Call
operation_of K.Tcall first second = TableCall
operation_of K.Brk first second = Break
operation_of K.Ret first second = Return
operation_of K.Reti first second = InterruptReturn
operation_of K.Sleep first second = Halt
operation_of K.Stop first second = Halt
