use Rattle.std.proofs.Common.{◌<◌, ◌-◌, ◌∙◌, sym, arith}
use Rattle.reach_map.proofs.PageOfBytes.{in_first_part, in_second_part, in_one_part}
use Rattle.reach_map.proofs.ChainInTwoParts.{blocks_have_first}
use Rattle.reach_map.proofs.voices.blocks_have_page.Goals as goal

pub returns-then-bytes_have_page : goal.returns-then-bytes_have_page
returns-then-bytes_have_page c =
    in_first_part c.args.memory.now c.args.start.loop_word 18 c.args.start.block c.args.page c.blocks_to_end-first.result c.blocks_to_end-first.ensures.length
    (sym c.if-bytes_have_page.true ∙ c.bytes_have_page.ensures)

pub returns-then-first-eq-CHAIN_BLOCKS : goal.returns-then-first-eq-CHAIN_BLOCKS
returns-then-first-eq-CHAIN_BLOCKS c =
    in_one_part c.args.memory.now c.args.start.loop_word 18 c.args.start.block c.args.page c.blocks_to_end-first.result c.blocks_to_end-first.ensures.length
    c.if-first-eq-CHAIN_BLOCKS.true (sym c.if-bytes_have_page.false ∙ c.bytes_have_page.ensures)

pub bytes_have_page-requires-2-clause-some : goal.bytes_have_page-requires-2-clause-some
bytes_have_page-requires-2-clause-some c =
    let left : 0 < 18 - c.blocks_to_end-first.result = omega (arith, c.blocks_to_end-first.ensures.most, c.if-first-eq-CHAIN_BLOCKS.false) in
    let some = blocks_have_first c.args.memory.now c.args.start.loop_word (18 - c.blocks_to_end-first.result) left in
    omega (arith, some, c.blocks_to_end-again.ensures.length)

pub returns : goal.returns
returns c =
    in_second_part c.args.memory.now c.args.start.loop_word 18 c.args.start.block c.args.page c.blocks_to_end-first.result c.blocks_to_end-again.result _
    c.blocks_to_end-first.ensures.length c.blocks_to_end-again.ensures.length (sym c.if-bytes_have_page.false ∙ c.bytes_have_page.ensures) c.bytes_have_page-2.ensures
