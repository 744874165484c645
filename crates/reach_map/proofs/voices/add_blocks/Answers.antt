use Rattle.std.proofs.Common.{arith}
use Rattle.reach_map.proofs.ChainInTwoParts.{chain_in_one_part, chain_in_two_parts}
use Rattle.reach_map.proofs.voices.add_blocks.Goals as goal

pub returns-then-first-count : goal.returns-then-first-count
returns-then-first-count c =
    rw (c.add_bytes-then-first-count.ensures, c.blocks_to_end-again.ensures.length, c.add_bytes.ensures, c.blocks_to_end-first.ensures.length)
    (chain_in_two_parts c.args.pages.now c.args.memory.now c.args.start.loop_word c.args.count c.args.start.block)

pub returns-else-first-count : goal.returns-else-first-count
returns-else-first-count c =
    rw (c.add_bytes.ensures, c.blocks_to_end-first.ensures.length)
    (chain_in_one_part c.args.pages.now c.args.memory.now c.args.start.loop_word c.args.count c.args.start.block (omega (arith, c.blocks_to_end-first.ensures.length)))
