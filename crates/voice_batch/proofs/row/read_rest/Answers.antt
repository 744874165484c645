use Rattle.std.proofs.Common.{◌/◌, ◌∙◌, ℕ, List, ℤ, take, ap, arith}
use Rattle.brr_decode.specs.CachedBlocks.{with_groups}
use Rattle.voice_batch.proofs.InBlock.{row_of_block}
use Rattle.voice_batch.proofs.row.read_rest.Goals as goal

pub returns : goal.returns
returns c loop_word d few =
    let samples : List ℤ = take c.args.len c.args.row.now in
    c.read_rest.ensures.row d (omega (arith, few, c.requires.group.within))
    ∙ ap (λ (header : ℕ). with_groups samples header c.digit_bytes-digits.result (c.args.at.now.offset / 2) d) c.requires.header
    ∙ row_of_block c.args.memory.now loop_word c.args.at.now c.requires.group c.digit_bytes-digits.result c.digit_bytes-digits.ensures samples d few
