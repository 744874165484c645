use Rattle.std.proofs.Common.{ℕ, refl}
use Rattle.spc700_alu.specs.declared.bytes.ShiftKind.{ShiftKind}
use Rattle.spc700_alu.specs.declared.bytes.ShiftKind.TheVariants as Shift
use Rattle.spc700_alu.specs.declared.bits.BitKind.{BitKind}
use Rattle.spc700_alu.specs.declared.bits.BitKind.TheVariants as Bit
use Rattle.spc700_alu.specs.Flags.{SameFlags}
use Rattle.spc700_alu.specs.Bytes.{byte_sum, cmp_of, logic_of, shift_of, bump_of}
use Rattle.spc700_alu.specs.WordArithmetic.{word_sum, cmpw_of, mul_of, div_of}
use Rattle.spc700_alu.specs.Decimal.{daa_of, das_of}
use Rattle.spc700_alu.specs.Bits.{bitop_of}
use Rattle.spc700_alu.proofs.Others.{nz_alone, nzc_alone, nvhz_alone, nvhzc_alone, c_alone}
use Rattle.spc700_alu.proofs.laws.other_flags_stay.Goals as goal

shift_alone : (kind : ShiftKind) (v psw : ℕ) → SameFlags 0x7c psw (shift_of kind v psw).psw
unfolding shift_of
shift_alone Shift.Asl v psw = search nzc_alone
shift_alone Shift.Rol v psw = search nzc_alone
shift_alone Shift.Lsr v psw = search nzc_alone
shift_alone Shift.Ror v psw = search nzc_alone

bitop_alone : (kind : BitKind) (byte bit psw : ℕ) → SameFlags 0xfe psw (bitop_of kind byte bit psw).psw
unfolding bitop_of
bitop_alone Bit.Or byte bit psw = search c_alone
bitop_alone Bit.OrNot byte bit psw = search c_alone
bitop_alone Bit.And byte bit psw = search c_alone
bitop_alone Bit.AndNot byte bit psw = search c_alone
bitop_alone Bit.Eor byte bit psw = search c_alone
bitop_alone Bit.Load byte bit psw = search c_alone
bitop_alone Bit.Store byte bit psw = refl
bitop_alone Bit.Not byte bit psw = refl
bitop_alone Bit.Set byte bit psw = refl
bitop_alone Bit.Clear byte bit psw = refl

pub returns-clause-adc : goal.returns-clause-adc
unfolding byte_sum
returns-clause-adc c = λ a b psw. search nvhzc_alone

pub returns-clause-sbc : goal.returns-clause-sbc
unfolding byte_sum
returns-clause-sbc c = λ a b psw. search nvhzc_alone

pub returns-clause-cmp : goal.returns-clause-cmp
unfolding cmp_of
returns-clause-cmp c = λ a b psw. search nzc_alone

pub returns-clause-logic : goal.returns-clause-logic
unfolding logic_of
returns-clause-logic c = λ kind a b psw. search nz_alone

pub returns-clause-shift : goal.returns-clause-shift
returns-clause-shift c = shift_alone

pub returns-clause-bump : goal.returns-clause-bump
unfolding bump_of
returns-clause-bump c = λ v up psw. search nz_alone

pub returns-clause-addw : goal.returns-clause-addw
unfolding word_sum
returns-clause-addw c = λ ya w psw. search nvhzc_alone

pub returns-clause-subw : goal.returns-clause-subw
unfolding word_sum
returns-clause-subw c = λ ya w psw. search nvhzc_alone

pub returns-clause-cmpw : goal.returns-clause-cmpw
unfolding cmpw_of
returns-clause-cmpw c = λ ya w psw. search nzc_alone

pub returns-clause-mul : goal.returns-clause-mul
unfolding mul_of
returns-clause-mul c = λ y a psw. search nz_alone

pub returns-clause-div : goal.returns-clause-div
unfolding div_of
returns-clause-div c = λ ya x psw. search nvhz_alone

pub returns-clause-daa : goal.returns-clause-daa
unfolding daa_of
returns-clause-daa c = λ a psw. search nzc_alone

pub returns-clause-das : goal.returns-clause-das
unfolding das_of
returns-clause-das c = λ a psw. search nzc_alone

pub returns-clause-bitop : goal.returns-clause-bitop
returns-clause-bitop c = bitop_alone
