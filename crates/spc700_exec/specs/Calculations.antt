-- The code's names for the arithmetic that the operations carry.
use Rattle.std.specs.Prelude.{ℕ, true, false}
use Rattle.spc700_alu.specs.declared.Out8.{Out8}
use Rattle.spc700_alu.specs.declared.Out16.{Out16}
use Rattle.spc700_alu.specs.Bytes.{shift_of, bump_of}
use Rattle.spc700_alu.specs.WordArithmetic.{addw_of, subw_of}
use Rattle.spc700_exec.specs.declared.bytes.Modification.{Modification}
use Rattle.spc700_exec.specs.declared.bytes.Modification.TheVariants as Modify
use Rattle.spc700_exec.specs.declared.word_instructions.WordCalculation.{WordCalculation}
use Rattle.spc700_exec.specs.declared.word_instructions.WordCalculation.TheVariants as Word
use Rattle.spc700_exec.specs.Operations.{movw_of, kept_after_cmpw}

abbrev pub modification : Modification → (v psw : ℕ) → Out8
modification (Modify.Shift kind) = shift_of kind
modification Modify.Up = λ v psw. bump_of v true psw
modification Modify.Down = λ v psw. bump_of v false psw

abbrev pub word_calculation : WordCalculation → (ya w psw : ℕ) → Out16
word_calculation Word.Load = movw_of
word_calculation Word.Add = addw_of
word_calculation Word.Subtract = subw_of
word_calculation Word.Compare = kept_after_cmpw
