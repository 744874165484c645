-- Only a processor that halts takes its time from the next sample.
use Rattle.std.proofs.Common.{◌≡◌, ℕ, Bool, true, false, if◌then◌else◌, refl}
use Rattle.spc700_table.specs.declared.Form.{Form}
use Rattle.spc700_table.specs.declared.Form.TheVariants as F
use Rattle.spc700_table.specs.declared.OpRow.{OpRow}
use Rattle.spc700_table.specs.Opcodes.{row_of, is_in_text_order}
use Rattle.spc700_exec.specs.declared.cpu.Cpu.{Cpu}
use Rattle.spc700_exec.specs.declared.operand.Operand.{Operand}
use Rattle.spc700_exec.specs.declared.operand.Both.{Both}
use Rattle.spc700_exec.specs.declared.operand.Operand.TheVariants as P
use Rattle.spc700_exec.specs.Script.{Script}
use Rattle.spc700_exec.specs.Operands.{addressed, both_addressed, loaded, stored}
use Rattle.spc700_exec.specs.Operations.{Operation, operation_of, OnStatus, OnA, OnYa, Branch, BitBranch, CompareBranch, CountBranch, Move, Calculate, Compare, Modify, BitToCarry, BitInPlace, BitTest, WordOnYa, WordStore, WordModify, Push, Pop, Jump, Call, TableCall, Break, Return, InterruptReturn, Halt}
use Rattle.spc700_exec.specs.Lines.{branch_end}
use Rattle.spc700_exec.specs.Instruction.{line_of, step_unless, script}
use Rattle.idle_loops.specs.ReadOnly.{HaltsToSample}

on_addressed : (form : Form) (cpu : Cpu) (next : Operand → Cpu → Script) → ((operand : Operand) (cpu : Cpu) → HaltsToSample (next operand cpu)) → HaltsToSample (addressed form cpu next)
on_addressed F.A cpu next h = h _ _
on_addressed F.X cpu next h = h _ _
on_addressed F.Y cpu next h = h _ _
on_addressed F.Sp cpu next h = h _ _
on_addressed F.Psw cpu next h = h _ _
on_addressed F.Ya cpu next h = h _ _
on_addressed F.Carry cpu next h = h _ _
on_addressed F.None cpu next h = h _ _
on_addressed F.PtrX cpu next h = h _ _
on_addressed F.PtrY cpu next h = h _ _
on_addressed F.PtrXInc cpu next h = h _ _
on_addressed (F.Table i) cpu next h = h _ _
on_addressed F.Imm cpu next h = λ b0. h _ _
on_addressed F.Rel cpu next h = λ b0. h _ _
on_addressed F.Direct cpu next h = λ b0. h _ _
on_addressed F.DirectX cpu next h = λ b0. h _ _
on_addressed F.DirectY cpu next h = λ b0. h _ _
on_addressed F.Upper cpu next h = λ b0. h _ _
on_addressed (F.DirectBit bit) cpu next h = λ b0. h _ _
on_addressed F.Abs cpu next h = λ b0. λ b1. h _ _
on_addressed F.AbsX cpu next h = λ b0. λ b1. h _ _
on_addressed F.AbsY cpu next h = λ b0. λ b1. h _ _
on_addressed F.Bit cpu next h = λ b0. λ b1. h _ _
on_addressed F.NotBit cpu next h = λ b0. λ b1. h _ _
on_addressed F.IndX cpu next h = λ b0. λ b1. λ b2. h _ _
on_addressed F.IndY cpu next h = λ b0. λ b1. λ b2. h _ _
on_addressed F.AbsPtrX cpu next h = λ b0. λ b1. λ b2. λ b3. h _ _

on_loaded : (operand : Operand) (cpu : Cpu) (next : ℕ → Script) → ((v : ℕ) → HaltsToSample (next v)) → HaltsToSample (loaded operand cpu next)
on_loaded (P.At at) cpu next h = λ byte. h byte
on_loaded (P.BitAt at bit) cpu next h = λ byte. h byte
on_loaded P.A cpu next h = h _
on_loaded P.X cpu next h = h _
on_loaded P.Y cpu next h = h _
on_loaded P.Sp cpu next h = h _
on_loaded P.Psw cpu next h = h _
on_loaded (P.Value byte) cpu next h = h _
on_loaded P.Implied cpu next h = h _

on_stored : (operand : Operand) (v : ℕ) (cpu : Cpu) (next : Cpu → Script) → ((cpu : Cpu) → HaltsToSample (next cpu)) → HaltsToSample (stored operand v cpu next)
on_stored (P.At at) v cpu next h = h _
on_stored (P.BitAt at bit) v cpu next h = h _
on_stored P.A v cpu next h = h _
on_stored P.X v cpu next h = h _
on_stored P.Y v cpu next h = h _
on_stored P.Sp v cpu next h = h _
on_stored P.Psw v cpu next h = h _
on_stored (P.Value byte) v cpu next h = h _
on_stored P.Implied v cpu next h = h _

module _ (row : OpRow) where
  on_branch_end : (on : Bool) (r : ℕ) (cpu : Cpu) → HaltsToSample (branch_end on r row cpu)
  on_branch_end true r cpu = tt
  on_branch_end false r cpu = tt

  on_both : (cpu : Cpu) (next : Both → Cpu → Script) → ((both : Both) (cpu : Cpu) → HaltsToSample (next both cpu)) → HaltsToSample (both_addressed row cpu next)
  unfolding both_addressed
  on_both cpu next h = by (is_in_text_order row)
    where
      in_order : Script
      in_order = addressed row.first cpu (λ first cpu. addressed row.second cpu (λ second cpu. next (record { first = first; second = second }) cpu))

      second_first : Script
      second_first = addressed row.second cpu (λ second cpu. addressed row.first cpu (λ first cpu. next (record { first = first; second = second }) cpu))

      by : (b : Bool) → HaltsToSample (if b then in_order else second_first)
      by true = on_addressed row.first cpu _ (λ first cpu. on_addressed row.second cpu _ (λ second cpu. h _ cpu))
      by false = on_addressed row.second cpu _ (λ second cpu. on_addressed row.first cpu _ (λ first cpu. h _ cpu))

  on_line : (op : Operation) (cpu : Cpu) → HaltsToSample (line_of op row cpu)
  on_line (OnStatus change) cpu = tt
  on_line (OnA change) cpu = tt
  on_line (OnYa change) cpu = tt
  on_line (Branch condition) cpu = λ r. on_branch_end _ r _
  on_line (BitBranch on) cpu = on_both cpu _ (λ both cpu. on_loaded both.first _ _ (λ v. on_loaded both.second _ _ (λ r. on_branch_end _ r _)))
  on_line CompareBranch cpu = on_both cpu _ (λ both cpu. on_loaded both.first _ _ (λ v. on_loaded both.second _ _ (λ r. on_branch_end _ r _)))
  on_line CountBranch cpu = on_both cpu _ (λ both cpu. on_loaded both.first _ _ (λ v. on_loaded both.second _ _ (λ r. on_stored both.first _ _ _ (λ cpu. on_branch_end _ r cpu))))
  on_line Move cpu = on_both cpu _ (λ both cpu. on_loaded both.second cpu _ (λ v. on_stored both.first v cpu _ (λ cpu. tt)))
  on_line (Calculate calculate) cpu = on_both cpu _ (λ both cpu. on_loaded both.second cpu _ (λ b. on_loaded both.first cpu _ (λ a. on_stored both.first _ _ _ (λ cpu. tt))))
  on_line Compare cpu = on_both cpu _ (λ both cpu. on_loaded both.second cpu _ (λ b. on_loaded both.first cpu _ (λ a. tt)))
  on_line (Modify change) cpu = on_addressed row.first cpu _ (λ o cpu. on_loaded o cpu _ (λ v. on_stored o _ _ _ (λ cpu. tt)))
  on_line (BitToCarry kind) cpu = on_addressed row.second cpu _ (λ o cpu. on_loaded o cpu _ (λ v. tt))
  on_line (BitInPlace kind) cpu = on_addressed row.first cpu _ (λ o cpu. on_loaded o cpu _ (λ v. on_stored o _ cpu _ (λ cpu. tt)))
  on_line (BitTest change) cpu = on_addressed row.first cpu _ (λ o cpu. on_loaded o cpu _ (λ v. on_stored o _ _ _ (λ cpu. tt)))
  on_line (WordOnYa calculate) cpu = on_addressed row.second cpu _ (λ o cpu. λ low high. tt)
  on_line WordStore cpu = on_addressed row.first cpu _ (λ o cpu. tt)
  on_line (WordModify change) cpu = on_addressed row.first cpu _ (λ o cpu. λ low high. tt)
  on_line Push cpu = on_addressed row.first cpu _ (λ o cpu. on_loaded o cpu _ (λ v. tt))
  on_line Pop cpu = on_addressed row.first cpu _ (λ o cpu. λ v. on_stored o v _ _ (λ cpu. tt))
  on_line Jump cpu = on_addressed row.first cpu _ (λ o cpu. tt)
  on_line Call cpu = on_addressed row.first cpu _ (λ o cpu. tt)
  on_line TableCall cpu = on_addressed row.first cpu _ (λ o cpu. λ low high. tt)
  on_line Break cpu = λ low high. tt
  on_line Return cpu = λ low high. tt
  on_line InterruptReturn cpu = λ psw low high. tt
  on_line Halt cpu = refl

on_step : (halted : Bool) (cpu : Cpu) → cpu.halted ≡ halted → HaltsToSample (step_unless halted cpu)
on_step true cpu is = is
on_step false cpu is = λ op. on_line (row_of op) (operation_of (row_of op).kind (row_of op).first (row_of op).second) _

pub HaltsToSample-script : (cpu : Cpu) → HaltsToSample (script cpu)
HaltsToSample-script cpu = on_step cpu.halted cpu refl
