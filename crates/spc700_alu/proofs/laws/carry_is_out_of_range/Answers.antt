use Rattle.std.proofs.Common.{◌+◌, ◌-◌, ◌∙◌, arith}
use Rattle.spc700_alu.specs.Flags.{carry_in}
use Rattle.spc700_alu.specs.Bytes.{byte_sum, cmp_of}
use Rattle.spc700_alu.specs.WordArithmetic.{word_sum, cmpw_of}
use Rattle.spc700_alu.specs.Ranges.{borrow_in}
use Rattle.spc700_alu.proofs.SumFlags.{c_of_three, c_of_five}
use Rattle.spc700_alu.proofs.Overflow.{carry_in-few, same_tests}
use Rattle.spc700_alu.proofs.laws.carry_is_out_of_range.Goals as goal

pub returns-clause-adc : goal.returns-clause-adc
unfolding byte_sum
returns-clause-adc c = λ a b psw sp. c_of_five psw _ _ _ _ _ sp

pub returns-clause-sbc : goal.returns-clause-sbc
unfolding byte_sum
returns-clause-sbc c = λ a b psw sb sp.
    let few = carry_in-few psw in
    c_of_five psw _ _ _ _ _ sp ∙ same_tests 0x100 (a + (0xff - b) + carry_in psw) (b + borrow_in psw) a (λ h. omega arith) (λ h. omega arith)

pub returns-clause-cmp : goal.returns-clause-cmp
unfolding cmp_of
returns-clause-cmp c = λ a b psw sp. c_of_three psw _ _ _ sp

pub returns-clause-addw : goal.returns-clause-addw
unfolding word_sum
returns-clause-addw c = λ a b psw sp. c_of_five psw _ _ _ _ _ sp ∙ same_tests 0x10000 (a + b + 0) 0x10000 (a + b) (λ h. omega arith) (λ h. omega arith)

pub returns-clause-subw : goal.returns-clause-subw
unfolding word_sum
returns-clause-subw c = λ a b psw sb sp.
    c_of_five psw _ _ _ _ _ sp ∙ same_tests 0x10000 (a + (0xffff - b) + 1) b a (λ h. omega arith) (λ h. omega arith)

pub returns-clause-cmpw : goal.returns-clause-cmpw
unfolding cmpw_of
returns-clause-cmpw c = λ ya w psw sp. c_of_three psw _ _ _ sp
