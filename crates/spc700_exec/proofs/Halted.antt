-- After an instruction the processor is halted exactly if the instruction is SLEEP or STOP.
use Rattle.std.proofs.Common.{◌≡◌, ℕ, ◌+◌, ◌<◌, Bool, true, false, ◌||◌, nat_eq, if◌then◌else◌, refl, ◌∙◌}
use Rattle.std.specs.Prelude.{not}
use Rattle.std.specs.List.{range_with_len, list_all}
use Rattle.spc700_table.specs.declared.Form.{Form}
use Rattle.spc700_table.specs.declared.Form.TheVariants as F
use Rattle.spc700_table.specs.declared.OpRow.{OpRow}
use Rattle.spc700_table.specs.Cycles.{cycle_map, printed_cycles}
use Rattle.spc700_table.specs.Opcodes.{row_of, columns, is_in_text_order}
use Rattle.spc700_table.proofs.Below.{list_all_below}
use Rattle.spc700_exec.specs.declared.cpu.Cpu.{Cpu}
use Rattle.spc700_exec.specs.declared.operand.Operand.{Operand}
use Rattle.spc700_exec.specs.declared.operand.Both.{Both}
use Rattle.spc700_exec.specs.declared.operand.Operand.TheVariants as P
use Rattle.spc700_exec.specs.Bus.{BusMeaning, byte_read, after_read}
use Rattle.spc700_exec.specs.Script.{Script, Read, Write, End, outcome}
use Rattle.spc700_exec.specs.Operands.{with_next_pc, addressed, both_addressed, loaded, stored}
use Rattle.spc700_exec.specs.Operations.{Operation, operation_of, OnStatus, OnA, OnYa, Branch, BitBranch, CompareBranch, CountBranch, Move, Calculate, Compare, Modify, BitToCarry, BitInPlace, BitTest, WordOnYa, WordStore, WordModify, Push, Pop, Jump, Call, TableCall, Break, Return, InterruptReturn, Halt}
use Rattle.spc700_exec.specs.Lines.{branch_end, with_nz_of_move}
use Rattle.spc700_exec.specs.Instruction.{line_of, instruction, step_unless, step_outcome}
use Rattle.spc700_exec.specs.Pieces.{halts}

-- at each of its ends a script leaves the processor halted, or at none
abbrev Ends : Bool → Script → Type 0
Ends b (Read at next) = (byte : ℕ) → Ends b (next byte)
Ends b (Write at value next) = Ends b next
Ends b (End cpu time) = cpu.halted ≡ b

-- whether an operation halts the processor
abbrev is_halt : Operation → Bool
is_halt Halt = true
is_halt _ = false

module _ (b : Bool) where
  on_addressed : (form : Form) (cpu : Cpu) (next : Operand → Cpu → Script) → cpu.halted ≡ b → ((operand : Operand) (cpu : Cpu) → cpu.halted ≡ b → Ends b (next operand cpu)) → Ends b (addressed form cpu next)
  on_addressed F.A cpu next e h = h _ _ e
  on_addressed F.X cpu next e h = h _ _ e
  on_addressed F.Y cpu next e h = h _ _ e
  on_addressed F.Sp cpu next e h = h _ _ e
  on_addressed F.Psw cpu next e h = h _ _ e
  on_addressed F.Ya cpu next e h = h _ _ e
  on_addressed F.Carry cpu next e h = h _ _ e
  on_addressed F.None cpu next e h = h _ _ e
  on_addressed F.PtrX cpu next e h = h _ _ e
  on_addressed F.PtrY cpu next e h = h _ _ e
  on_addressed F.PtrXInc cpu next e h = h _ _ e
  on_addressed (F.Table i) cpu next e h = h _ _ e
  on_addressed F.Imm cpu next e h = λ b0. h _ _ e
  on_addressed F.Rel cpu next e h = λ b0. h _ _ e
  on_addressed F.Direct cpu next e h = λ b0. h _ _ e
  on_addressed F.DirectX cpu next e h = λ b0. h _ _ e
  on_addressed F.DirectY cpu next e h = λ b0. h _ _ e
  on_addressed F.Upper cpu next e h = λ b0. h _ _ e
  on_addressed (F.DirectBit bit) cpu next e h = λ b0. h _ _ e
  on_addressed F.Abs cpu next e h = λ b0. λ b1. h _ _ e
  on_addressed F.AbsX cpu next e h = λ b0. λ b1. h _ _ e
  on_addressed F.AbsY cpu next e h = λ b0. λ b1. h _ _ e
  on_addressed F.Bit cpu next e h = λ b0. λ b1. h _ _ e
  on_addressed F.NotBit cpu next e h = λ b0. λ b1. h _ _ e
  on_addressed F.IndX cpu next e h = λ b0. λ b1. λ b2. h _ _ e
  on_addressed F.IndY cpu next e h = λ b0. λ b1. λ b2. h _ _ e
  on_addressed F.AbsPtrX cpu next e h = λ b0. λ b1. λ b2. λ b3. h _ _ e

  on_loaded : (operand : Operand) (cpu : Cpu) (next : ℕ → Script) → ((v : ℕ) → Ends b (next v)) → Ends b (loaded operand cpu next)
  on_loaded (P.At at) cpu next h = λ byte. h byte
  on_loaded (P.BitAt at bit) cpu next h = λ byte. h byte
  on_loaded P.A cpu next h = h _
  on_loaded P.X cpu next h = h _
  on_loaded P.Y cpu next h = h _
  on_loaded P.Sp cpu next h = h _
  on_loaded P.Psw cpu next h = h _
  on_loaded (P.Value byte) cpu next h = h _
  on_loaded P.Implied cpu next h = h _

  on_stored : (operand : Operand) (v : ℕ) (cpu : Cpu) (next : Cpu → Script) → cpu.halted ≡ b → ((cpu : Cpu) → cpu.halted ≡ b → Ends b (next cpu)) → Ends b (stored operand v cpu next)
  on_stored (P.At at) v cpu next e h = h _ e
  on_stored (P.BitAt at bit) v cpu next e h = h _ e
  on_stored P.A v cpu next e h = h _ e
  on_stored P.X v cpu next e h = h _ e
  on_stored P.Y v cpu next e h = h _ e
  on_stored P.Sp v cpu next e h = h _ e
  on_stored P.Psw v cpu next e h = h _ e
  on_stored (P.Value byte) v cpu next e h = h _ e
  on_stored P.Implied v cpu next e h = h _ e

  on_moved : (operand : Operand) (v : ℕ) (cpu : Cpu) → cpu.halted ≡ b → (with_nz_of_move operand v cpu).halted ≡ b
  on_moved P.A v cpu e = e
  on_moved P.X v cpu e = e
  on_moved P.Y v cpu e = e
  on_moved (P.At at) v cpu e = e
  on_moved (P.BitAt at bit) v cpu e = e
  on_moved P.Sp v cpu e = e
  on_moved P.Psw v cpu e = e
  on_moved (P.Value byte) v cpu e = e
  on_moved P.Implied v cpu e = e

  module _ (row : OpRow) where
    on_branch_end : (on : Bool) (r : ℕ) (cpu : Cpu) → cpu.halted ≡ b → Ends b (branch_end on r row cpu)
    on_branch_end true r cpu e = e
    on_branch_end false r cpu e = e

    on_both : (cpu : Cpu) (next : Both → Cpu → Script) → cpu.halted ≡ b → ((both : Both) (cpu : Cpu) → cpu.halted ≡ b → Ends b (next both cpu)) → Ends b (both_addressed row cpu next)
    unfolding both_addressed
    on_both cpu next e h = by (is_in_text_order row)
      where
        in_order : Script
        in_order = addressed row.first cpu (λ first cpu. addressed row.second cpu (λ second cpu. next (record { first = first; second = second }) cpu))

        second_first : Script
        second_first = addressed row.second cpu (λ second cpu. addressed row.first cpu (λ first cpu. next (record { first = first; second = second }) cpu))

        by : (c : Bool) → Ends b (if c then in_order else second_first)
        by true = on_addressed row.first cpu _ e (λ first cpu e. on_addressed row.second cpu _ e (λ second cpu e. h _ cpu e))
        by false = on_addressed row.second cpu _ e (λ second cpu e. on_addressed row.first cpu _ e (λ first cpu e. h _ cpu e))

-- the line of each operation, of a processor that isn't halted
on_line : (op : Operation) (row : OpRow) (cpu : Cpu) → cpu.halted ≡ false → Ends (is_halt op) (line_of op row cpu)
on_line (OnStatus change) row cpu e = e
on_line (OnA change) row cpu e = e
on_line (OnYa change) row cpu e = e
on_line (Branch condition) row cpu e = λ r. on_branch_end _ row _ r _ e
on_line (BitBranch on) row cpu e = on_both _ row cpu _ e (λ both cpu e. on_loaded _ both.first _ _ (λ v. on_loaded _ both.second _ _ (λ r. on_branch_end _ row _ r _ e)))
on_line CompareBranch row cpu e = on_both _ row cpu _ e (λ both cpu e. on_loaded _ both.first _ _ (λ v. on_loaded _ both.second _ _ (λ r. on_branch_end _ row _ r _ e)))
on_line CountBranch row cpu e = on_both _ row cpu _ e (λ both cpu e. on_loaded _ both.first _ _ (λ v. on_loaded _ both.second _ _ (λ r. on_stored _ both.first _ _ _ e (λ cpu e. on_branch_end _ row _ r cpu e))))
on_line Move row cpu e = on_both _ row cpu _ e (λ both cpu e. on_loaded _ both.second cpu _ (λ v. on_stored _ both.first v cpu _ e (λ cpu e. on_moved _ both.first v cpu e)))
on_line (Calculate calculate) row cpu e = on_both _ row cpu _ e (λ both cpu e. on_loaded _ both.second cpu _ (λ b. on_loaded _ both.first cpu _ (λ a. on_stored _ both.first _ _ _ e (λ cpu e. e))))
on_line Compare row cpu e = on_both _ row cpu _ e (λ both cpu e. on_loaded _ both.second cpu _ (λ b. on_loaded _ both.first cpu _ (λ a. e)))
on_line (Modify change) row cpu e = on_addressed _ row.first cpu _ e (λ o cpu e. on_loaded _ o cpu _ (λ v. on_stored _ o _ _ _ e (λ cpu e. e)))
on_line (BitToCarry kind) row cpu e = on_addressed _ row.second cpu _ e (λ o cpu e. on_loaded _ o cpu _ (λ v. e))
on_line (BitInPlace kind) row cpu e = on_addressed _ row.first cpu _ e (λ o cpu e. on_loaded _ o cpu _ (λ v. on_stored _ o _ cpu _ e (λ cpu e. e)))
on_line (BitTest change) row cpu e = on_addressed _ row.first cpu _ e (λ o cpu e. on_loaded _ o cpu _ (λ v. on_stored _ o _ _ _ e (λ cpu e. e)))
on_line (WordOnYa calculate) row cpu e = on_addressed _ row.second cpu _ e (λ o cpu e. λ low high. e)
on_line WordStore row cpu e = on_addressed _ row.first cpu _ e (λ o cpu e. e)
on_line (WordModify change) row cpu e = on_addressed _ row.first cpu _ e (λ o cpu e. λ low high. e)
on_line Push row cpu e = on_addressed _ row.first cpu _ e (λ o cpu e. on_loaded _ o cpu _ (λ v. e))
on_line Pop row cpu e = on_addressed _ row.first cpu _ e (λ o cpu e. λ v. on_stored _ o v _ _ e (λ cpu e. e))
on_line Jump row cpu e = on_addressed _ row.first cpu _ e (λ o cpu e. e)
on_line Call row cpu e = on_addressed _ row.first cpu _ e (λ o cpu e. e)
on_line TableCall row cpu e = on_addressed _ row.first cpu _ e (λ o cpu e. λ low high. e)
on_line Break row cpu e = λ low high. e
on_line Return row cpu e = λ low high. e
on_line InterruptReturn row cpu e = λ psw low high. e
on_line Halt row cpu e = refl

on_outcome : {S : Type 0} (bus : BusMeaning S) (b : Bool) (script : Script) (start made : ℕ) (s : S) → Ends b script → (outcome bus start made script s).0.halted ≡ b
on_outcome bus b (Read at next) start made s h = on_outcome bus b (next _) start (made + 1) _ (h _)
on_outcome bus b (Write at value next) start made s h = on_outcome bus b next start (made + 1) _ h
on_outcome bus b (End cpu time) start made s h = h

-- the kinds that halt are those whose operation does
abbrev same_test : Bool → Bool → Bool
same_test true b = b
same_test false b = not b

same_by_test : (a b : Bool) → same_test a b ≡ true → a ≡ b
same_by_test true true h = refl
same_by_test true false h = absurd (cc)
same_by_test false true h = absurd (cc)
same_by_test false false h = refl

abbrev row_tells : OpRow → Bool
row_tells row = same_test (is_halt (operation_of row.kind row.first row.second)) (halts row.kind)

all_tell : list_all (λ op. row_tells (row_of op)) (range_with_len 0 256) ≡ true
unfolding row_of columns printed_cycles cycle_map
all_tell = refl

kind_tells : (op : ℕ) → op < 256 → is_halt (operation_of (row_of op).kind (row_of op).first (row_of op).second) ≡ halts (row_of op).kind
kind_tells op below = same_by_test _ _ (list_all_below (λ op. row_tells (row_of op)) 256 op all_tell below)

-- the two opcodes that halt the processor
all_halt : list_all (λ op. same_test (nat_eq op 0xEF || nat_eq op 0xFF) (halts (row_of op).kind)) (range_with_len 0 256) ≡ true
unfolding row_of columns printed_cycles cycle_map
all_halt = refl

halts-row_of : (op : ℕ) → op < 256 → (nat_eq op 0xEF || nat_eq op 0xFF) ≡ halts (row_of op).kind
halts-row_of op below = same_by_test _ _ (list_all_below (λ op. same_test (nat_eq op 0xEF || nat_eq op 0xFF) (halts (row_of op).kind)) 256 op all_halt below)

first_of : (a b c : Bool) → (a || b) ≡ c → a ≡ true → a ≡ c
first_of true b c e t = e
first_of false b c e t = absurd (cc)

second_of : (a b c : Bool) → (a || b) ≡ c → a ≡ false → b ≡ c
second_of true b c e t = absurd (cc)
second_of false b c e t = e

pub halts-by_first : (op : ℕ) → op < 256 → nat_eq op 0xEF ≡ true → nat_eq op 0xEF ≡ halts (row_of op).kind
halts-by_first op below is = first_of _ _ _ (halts-row_of op below) is

pub halts-by_second : (op : ℕ) → op < 256 → nat_eq op 0xEF ≡ false → nat_eq op 0xFF ≡ halts (row_of op).kind
halts-by_second op below other = second_of _ _ _ (halts-row_of op below) other

module _ {S : Type 0} (bus : BusMeaning S) where
  on_step : (halted : Bool) (cpu : Cpu) (s : S) → halted ≡ false → cpu.halted ≡ false → byte_read bus cpu.pc s < 256 → (outcome bus (bus.clock s) 0 (step_unless halted cpu) s).0.halted ≡ halts (row_of (byte_read bus cpu.pc s)).kind
  on_step true cpu s e awake below = absurd (cc)
  on_step false cpu s e awake below =
      let row = row_of (byte_read bus cpu.pc s) in
      on_outcome bus _ (instruction row (with_next_pc cpu)) (bus.clock s) 1 (after_read bus cpu.pc s) (on_line (operation_of row.kind row.first row.second) row (with_next_pc cpu) awake)
      ∙ kind_tells _ below

  -- whether the processor is halted after a step, by the opcode of its instruction
  pub halted-step_outcome : (cpu : Cpu) (s : S) → cpu.halted ≡ false → byte_read bus cpu.pc s < 256 → (step_outcome bus cpu s).0.halted ≡ halts (row_of (byte_read bus cpu.pc s)).kind
  halted-step_outcome cpu s awake below = on_step cpu.halted cpu s awake awake below
