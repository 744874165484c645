use Rattle.std.proofs.Common.{◌<◌, arith, sym, ap, ◌∙◌, below_more}
use Rattle.std.specs.Option.{option_map}
use Rattle.spc700_asm.specs.Characters.{capitals}
use Rattle.spc700_asm.specs.Statements.{is_alike}
use Rattle.spc700_asm.specs.Seen.{operand_seen}
use Rattle.spc700_asm.proofs.LeastOpcode.{least_opcode, no_opcode}
use Rattle.spc700_asm.proofs.statement.alike_opcode.Goals as goal

pub returns-then-is_alike : goal.returns-then-is_alike
returns-then-is_alike c =
    let below : c.loop-opcode.opcode < 256 = omega arith in
    let test = is_alike (capitals c.args.word.now) (option_map operand_seen c.args.first.now) (option_map operand_seen c.args.second.now) in
    sym (least_opcode test c.loop-opcode.opcode below c.loop-opcode.invariant (ap test (sym c.row.ensures) ∙ sym c.is_alike.ensures ∙ c.if-is_alike.true))

pub loop-opcode-preserved : goal.loop-opcode-preserved
loop-opcode-preserved c =
    let test = is_alike (capitals c.args.word.now) (option_map operand_seen c.args.first.now) (option_map operand_seen c.args.second.now) in
    below_more _ _ c.loop-opcode.invariant (ap test (sym c.row.ensures) ∙ sym c.is_alike.ensures ∙ c.if-is_alike.false)

pub returns : goal.returns
returns c =
    let test = is_alike (capitals c.args.word.now) (option_map operand_seen c.args.first.now) (option_map operand_seen c.args.second.now) in
    sym (no_opcode test (λ k below. c.loop-opcode.invariant k (omega arith)))
