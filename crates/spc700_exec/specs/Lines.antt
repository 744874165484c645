-- The instructions once the opcode was read, one line for each operation: its accesses in their order and its results
-- (Anomie's SPC700 Doc; own: the order of the accesses, that a halt is for good, and up to which multiple of 32 cycles it passes).
use Rattle.std.specs.Prelude.{ℕ, ◌+◌, ◌-◌, ◌/◌, ◌%◌, ◌^◌, Bool, true, false, not, ◌==◌}
use Rattle.spc700_alu.specs.declared.Out8.{Out8}
use Rattle.spc700_alu.specs.declared.Out16.{Out16}
use Rattle.spc700_alu.specs.declared.bits.BitKind.{BitKind}
use Rattle.spc700_alu.specs.Flags.{B, I, with_flag, with_nz, with_nz16}
use Rattle.spc700_alu.specs.Bytes.{cmp_of}
use Rattle.spc700_alu.specs.Bits.{bitop_of}
use Rattle.spc700_table.specs.declared.OpRow.{OpRow}
use Rattle.spc700_table.specs.Branches.{branch_target}
use Rattle.spc700_exec.specs.declared.cpu.Cpu.{Cpu}
use Rattle.spc700_exec.specs.declared.operand.Operand.{Operand}
use Rattle.spc700_exec.specs.declared.operand.Operand.TheVariants.{A, X, Y, At}
use Rattle.spc700_exec.specs.Script.{Script, End, Cycles, ToSample}
use Rattle.spc700_exec.specs.Operands.{fetched, addressed, both_addressed, loaded, stored, address_of, bit_of, loaded_word, stored_word, pushed, popped, pushed_word, popped_word, call_entry}
use Rattle.spc700_exec.specs.Operations.{ya, flag_is}

-- the end of an instruction
abbrev pub done : OpRow → Cpu → Script
done row cpu = End cpu (Cycles row.cycles)

-- NOP and the instructions on flags
abbrev pub status_line : (ℕ → ℕ) → OpRow → Cpu → Script
status_line change row cpu = done row (record cpu { psw = change cpu.psw })

-- XCN, DAA, DAS
abbrev pub a_line : (ℕ → ℕ → Out8) → OpRow → Cpu → Script
a_line change row cpu =
    let out = change cpu.a cpu.psw in
    done row (record cpu { a = out.value; psw = out.psw })

-- a word and a status put into YA and PSW
abbrev pub with_ya : Out16 → Cpu → Cpu
with_ya out cpu = record cpu { y = out.value / 0x100; a = out.value % 0x100; psw = out.psw }

-- MUL, DIV
abbrev pub ya_line : (Cpu → Out16) → OpRow → Cpu → Script
ya_line change row cpu = done row (with_ya (change cpu) cpu)

-- the end of a branch, taken or not
abbrev pub branch_end : Bool → (r : ℕ) → OpRow → Cpu → Script
branch_end true r row cpu = End (record cpu { pc = branch_target cpu.pc r }) (Cycles row.taken)
branch_end false r row cpu = done row cpu

-- BRA and the branches on a flag
abbrev pub branch_line : (ℕ → Bool) → OpRow → Cpu → Script
branch_line condition row cpu = fetched cpu (λ r cpu. branch_end (condition cpu.psw) r row cpu)

-- BBS, BBC
abbrev pub bit_branch_line : Bool → OpRow → Cpu → Script
bit_branch_line on row cpu =
    both_addressed row cpu (λ both cpu.
    loaded both.first cpu (λ byte. loaded both.second cpu (λ r.
    branch_end (flag_is (2 ^ bit_of both.first) on byte) r row cpu)))

-- CBNE
abbrev pub compare_branch_line : OpRow → Cpu → Script
compare_branch_line row cpu =
    both_addressed row cpu (λ both cpu.
    loaded both.first cpu (λ byte. loaded both.second cpu (λ r.
    branch_end (not (cpu.a == byte)) r row cpu)))

-- DBNZ: the byte less 1 is written, and the branch taken where that isn't 0
abbrev pub count_branch_line : OpRow → Cpu → Script
count_branch_line row cpu =
    both_addressed row cpu (λ both cpu.
    loaded both.first cpu (λ byte. loaded both.second cpu (λ r. let less = (byte + 0x100 - 1) % 0x100 in
    stored both.first less cpu (λ cpu.
    branch_end (not (less == 0)) r row cpu))))

-- a byte that was moved to A, X or Y shows in N and Z
abbrev pub with_nz_of_move : Operand → (value : ℕ) → Cpu → Cpu
with_nz_of_move A value cpu = record cpu { psw = with_nz value cpu.psw }
with_nz_of_move X value cpu = record cpu { psw = with_nz value cpu.psw }
with_nz_of_move Y value cpu = record cpu { psw = with_nz value cpu.psw }
with_nz_of_move _ value cpu = cpu

-- MOV: the source is read before the target is written
abbrev pub move_line : OpRow → Cpu → Script
move_line row cpu =
    both_addressed row cpu (λ both cpu.
    loaded both.second cpu (λ value. stored both.first value cpu (λ cpu.
    done row (with_nz_of_move both.first value cpu))))

-- OR, AND, EOR, ADC, SBC
abbrev pub calculate_line : (ℕ → ℕ → ℕ → Out8) → OpRow → Cpu → Script
calculate_line calculate row cpu =
    both_addressed row cpu (λ both cpu.
    loaded both.second cpu (λ b. loaded both.first cpu (λ a. let out = calculate a b cpu.psw in
    stored both.first out.value (record cpu { psw = out.psw }) (λ cpu.
    done row cpu))))

-- CMP
abbrev pub compare_line : OpRow → Cpu → Script
compare_line row cpu =
    both_addressed row cpu (λ both cpu.
    loaded both.second cpu (λ b. loaded both.first cpu (λ a.
    done row (record cpu { psw = cmp_of a b cpu.psw }))))

-- ASL, ROL, LSR, ROR, INC, DEC
abbrev pub modify_line : (ℕ → ℕ → Out8) → OpRow → Cpu → Script
modify_line change row cpu =
    addressed row.first cpu (λ operand cpu.
    loaded operand cpu (λ byte. let out = change byte cpu.psw in
    stored operand out.value (record cpu { psw = out.psw }) (λ cpu.
    done row cpu)))

-- OR1, AND1, EOR1 and MOV1 to C
abbrev pub bit_to_carry_line : BitKind → OpRow → Cpu → Script
bit_to_carry_line kind row cpu =
    addressed row.second cpu (λ operand cpu.
    loaded operand cpu (λ byte.
    done row (record cpu { psw = (bitop_of kind byte (bit_of operand) cpu.psw).psw })))

-- SET1, CLR1, NOT1 and MOV1 from C
abbrev pub bit_in_place_line : BitKind → OpRow → Cpu → Script
bit_in_place_line kind row cpu =
    addressed row.first cpu (λ operand cpu.
    loaded operand cpu (λ byte.
    stored operand (bitop_of kind byte (bit_of operand) cpu.psw).value cpu (λ cpu.
    done row cpu)))

-- TSET1, TCLR1: N and Z are those of A less the old byte
abbrev pub bit_test_line : (ℕ → ℕ → ℕ) → OpRow → Cpu → Script
bit_test_line change row cpu =
    addressed row.first cpu (λ operand cpu.
    loaded operand cpu (λ byte.
    stored operand (change byte cpu.a) (record cpu { psw = with_nz ((cpu.a + 0x100 - byte) % 0x100) cpu.psw }) (λ cpu.
    done row cpu)))

-- MOVW to YA, ADDW, SUBW, CMPW
abbrev pub word_on_ya_line : (ℕ → ℕ → ℕ → Out16) → OpRow → Cpu → Script
word_on_ya_line calculate row cpu =
    addressed row.second cpu (λ operand cpu.
    loaded_word operand (λ w.
    done row (with_ya (calculate (ya cpu) w cpu.psw) cpu)))

-- MOVW from YA
abbrev pub word_store_line : OpRow → Cpu → Script
word_store_line row cpu =
    addressed row.first cpu (λ operand cpu.
    stored_word operand (ya cpu) (done row cpu))

-- INCW, DECW
abbrev pub word_modify_line : (ℕ → ℕ) → OpRow → Cpu → Script
word_modify_line change row cpu =
    addressed row.first cpu (λ operand cpu.
    loaded_word operand (λ w.
    stored_word operand (change w)
    (done row (record cpu { psw = with_nz16 (change w) cpu.psw }))))

-- PUSH
abbrev pub push_line : OpRow → Cpu → Script
push_line row cpu =
    addressed row.first cpu (λ operand cpu.
    loaded operand cpu (λ byte. pushed byte cpu (λ cpu.
    done row cpu)))

-- POP: no flags, but POP PSW takes all of them
abbrev pub pop_line : OpRow → Cpu → Script
pop_line row cpu =
    addressed row.first cpu (λ operand cpu.
    popped cpu (λ byte cpu. stored operand byte cpu (λ cpu.
    done row cpu)))

-- JMP
abbrev pub jump_line : OpRow → Cpu → Script
jump_line row cpu =
    addressed row.first cpu (λ operand cpu.
    done row (record cpu { pc = address_of operand }))

-- CALL, PCALL: the PC that is pushed is the address after the instruction
abbrev pub call_line : OpRow → Cpu → Script
call_line row cpu =
    addressed row.first cpu (λ operand cpu.
    pushed_word cpu.pc cpu (λ cpu.
    done row (record cpu { pc = address_of operand })))

-- TCALL
abbrev pub table_call_line : OpRow → Cpu → Script
table_call_line row cpu =
    addressed row.first cpu (λ entry cpu.
    pushed_word cpu.pc cpu (λ cpu. loaded_word entry (λ a.
    done row (record cpu { pc = a }))))

-- BRK: after the push of PSW, B becomes 1 and I becomes 0
abbrev pub break_line : OpRow → Cpu → Script
break_line row cpu =
    pushed_word cpu.pc cpu (λ cpu. pushed cpu.psw cpu (λ cpu.
    loaded_word (At (call_entry 0)) (λ a.
    done row (record cpu { pc = a; psw = with_flag I false (with_flag B true cpu.psw) }))))

-- RET
abbrev pub return_line : OpRow → Cpu → Script
return_line row cpu = popped_word cpu (λ a cpu. done row (record cpu { pc = a }))

-- RETI
abbrev pub interrupt_return_line : OpRow → Cpu → Script
interrupt_return_line row cpu =
    popped cpu (λ psw cpu. popped_word cpu (λ a cpu.
    done row (record cpu { pc = a; psw = psw })))

-- SLEEP, STOP: the processor halts for good
abbrev pub halt_line : OpRow → Cpu → Script
halt_line row cpu = End (record cpu { halted = true }) ToSample
