use Rattle.std.proofs.Common.{◌≡◌, drop, arith, ap, ◌∙◌, sym}
use Rattle.spc700_table.specs.Opcodes.{length_of}
use Rattle.spc700_asm.proofs.Unrolled.{listing_at_some, listing_at_none, found_is_there}
use Rattle.spc700_asm.proofs.listing.first_instruction.Goals as goal

pub returns-in_err-instruction-clause-none : goal.returns-in_err-instruction-clause-none
returns-in_err-instruction-clause-none c =
    rw c.from_residual.ensures (listing_at_none _ _ (sym c.instruction_at.ensures ∙ c.in_err-instruction.was))

pub split_at-requires : goal.split_at-requires
split_at-requires c = omega (arith, found_is_there c.args.at c.args.bytes.now c.in_ok-instruction.instruction (sym c.instruction_at.ensures ∙ c.in_ok-instruction.was))

pub returns-clause-found : goal.returns-clause-found
returns-clause-found c =
    let after : c.split_at.result.1.now ≡ drop (length_of c.in_ok-instruction.instruction.opcode) c.args.bytes.now = c.split_at.ensures.back ∙ ap (λ (n : _). drop n c.args.bytes.now) (c.from-count.ensures ∙ c.length.ensures.length) in
    rw after (listing_at_some _ _ _ (sym c.instruction_at.ensures ∙ c.in_ok-instruction.was))
