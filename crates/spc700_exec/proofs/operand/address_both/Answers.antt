use Rattle.std.proofs.Common.{◌≡◌, ℕ, Bool, true, false, sym, ap, subst, ◌∙◌}
use Rattle.std.specs.Prelude.{if◌then◌else◌}
use Rattle.spc700_table.specs.declared.Form.{Form}
use Rattle.spc700_table.specs.declared.OpRow.{OpRow}
use Rattle.spc700_table.specs.Opcodes.{is_in_text_order}
use Rattle.spc700_exec.specs.declared.cpu.Cpu.{Cpu}
use Rattle.spc700_exec.specs.declared.operand.Both.{Both}
use Rattle.spc700_exec.specs.declared.operand.Operand.{Operand}
use Rattle.spc700_exec.specs.Bus.{BusMeaning}
use Rattle.spc700_exec.specs.Script.{Script}
use Rattle.spc700_exec.specs.Operands.{addressed, both_addressed}
use Rattle.spc700_exec.specs.Pieces.{outcome_by_clock, Gives, OperandFits}
use Rattle.spc700_exec.proofs.operand.address_both.Goals as goal

abbrev pair : (first second : Operand) → Both
pair first second = record { first = first; second = second }

module _ {S : Type 0} (bus : BusMeaning S) (row : OpRow) (start between after : Cpu) (s t u : S) (earlier later : Operand) where
  in_text : (Both → Cpu → Script) → Script
  in_text next = addressed row.first start (λ first cpu. addressed row.second cpu (λ second cpu. next (pair first second) cpu))

  swapped : (Both → Cpu → Script) → Script
  swapped next = addressed row.second start (λ second cpu. addressed row.first cpu (λ first cpu. next (pair first second) cpu))

  by_order : (b : Bool) → Gives bus (addressed (if b then row.first else row.second) start) s earlier between t → Gives bus (addressed (if b then row.second else row.first) between) t later after u → (clock : ℕ) (next : Both → Cpu → Script) → outcome_by_clock bus clock (if b then in_text next else swapped next) s ≡ outcome_by_clock bus clock (next (pair (if b then earlier else later) (if b then later else earlier)) after) u
  unfolding in_text swapped
  by_order true g h clock next =
      g clock (λ first cpu. addressed row.second cpu (λ second cpu. next (pair first second) cpu))
      ∙ h clock (λ second cpu. next (pair earlier second) cpu)
  by_order false g h clock next =
      g clock (λ second cpu. addressed row.first cpu (λ first cpu. next (pair first second) cpu))
      ∙ h clock (λ first cpu. next (pair first earlier) cpu)

  gives_both : (b : Bool) (f f' : Form) (o o' : Operand) → b ≡ is_in_text_order row → f ≡ (if b then row.first else row.second) → f' ≡ (if b then row.second else row.first) → o ≡ (if b then earlier else later) → o' ≡ (if b then later else earlier) → Gives bus (addressed f start) s earlier between t → Gives bus (addressed f' between) t later after u → Gives bus (both_addressed row start) s (pair o o') after u
  unfolding both_addressed in_text swapped
  gives_both b f f' o o' e ef ef' eo eo' g h clock next =
      let g' = subst (λ (x : Form). Gives bus (addressed x start) s earlier between t) ef g in
      let h' = subst (λ (x : Form). Gives bus (addressed x between) t later after u) ef' h in
      let same : pair (if b then earlier else later) (if b then later else earlier) ≡ pair o o' = ap (λ (x : Operand). pair x (if b then later else earlier)) (sym eo) ∙ ap (λ (x : Operand). pair o x) (sym eo') in
      subst (λ (x : Bool). outcome_by_clock bus clock (if x then in_text next else swapped next) s ≡ outcome_by_clock bus clock (next (pair o o') after) u) e
      (by_order b g' h' clock next ∙ ap (λ (both : Both). outcome_by_clock bus clock (next both after) u) same)

either_fits : (b : Bool) (one other : Operand) → OperandFits one → OperandFits other → OperandFits (if b then one else other)
either_fits true one other h k = h
either_fits false one other h k = k

pub returns-clause-gives : goal.returns-clause-gives
returns-clause-gives g c =
    gives_both g.B.Bus.means c.args.row c.args.cpu.now c.address-earlier.new.cpu c.address-later.new.cpu c.args.bus.now c.address-earlier.new.bus c.address-later.new.bus c.address-earlier.result c.address-later.result
    c.is_in_text_order-in_text_order.result c.chosen.result c.chosen-2.result c.chosen-3.result c.chosen-4.result
    c.is_in_text_order-in_text_order.ensures c.chosen.ensures c.chosen-2.ensures c.chosen-3.ensures c.chosen-4.ensures c.address-earlier.ensures.gives c.address-later.ensures.gives

pub returns-clause-fits : goal.returns-clause-fits
returns-clause-fits g c =
    subst (λ (x : Operand). OperandFits x) (sym c.chosen-3.ensures)
    (either_fits c.is_in_text_order-in_text_order.result c.address-earlier.result c.address-later.result c.address-earlier.ensures.fits c.address-later.ensures.fits)
