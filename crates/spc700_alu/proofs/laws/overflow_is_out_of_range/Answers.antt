use Rattle.std.proofs.Common.{◌≡◌, ◌+◌, ◌-◌, ◌∙◌, arith}
use Rattle.spc700_alu.specs.Flags.{carry_in}
use Rattle.spc700_alu.specs.Bytes.{byte_sum}
use Rattle.spc700_alu.specs.WordArithmetic.{word_sum}
use Rattle.spc700_alu.specs.Ranges.{borrow_in}
use Rattle.spc700_alu.proofs.SumFlags.{v_of_five}
use Rattle.spc700_alu.proofs.Overflow.{carry_in-few, overflow_of_sum8, overflow_of_sum16, overflow_of_difference8, overflow_of_difference16}
use Rattle.spc700_alu.proofs.laws.overflow_is_out_of_range.Goals as goal

pub returns-clause-adc : goal.returns-clause-adc
unfolding byte_sum
returns-clause-adc c = λ a b psw sa sb sp. v_of_five psw _ _ _ _ _ sp ∙ overflow_of_sum8 a b (carry_in psw) sa sb (carry_in-few psw)

pub returns-clause-sbc : goal.returns-clause-sbc
unfolding byte_sum
returns-clause-sbc c = λ a b psw sa sb sp.
    let few = carry_in-few psw in
    let both : b + (0xff - b) ≡ 0xff = omega arith in
    let borrow : carry_in psw + borrow_in psw ≡ 1 = omega arith in
    v_of_five psw _ _ _ _ _ sp ∙ overflow_of_difference8 a b (0xff - b) (carry_in psw) (borrow_in psw) sa both borrow

pub returns-clause-addw : goal.returns-clause-addw
unfolding word_sum
returns-clause-addw c = λ a b psw sa sb sp. v_of_five psw _ _ _ _ _ sp ∙ overflow_of_sum16 a b 0 sa sb (omega arith)

pub returns-clause-subw : goal.returns-clause-subw
unfolding word_sum
returns-clause-subw c = λ a b psw sa sb sp.
    let both : b + (0xffff - b) ≡ 0xffff = omega arith in
    v_of_five psw _ _ _ _ _ sp ∙ overflow_of_difference16 a b (0xffff - b) 1 0 sa both (omega arith)
