use Rattle.std.proofs.Common.{sym}
use Rattle.reach_map.specs.Reach.{chain_pages}
use Rattle.reach_map.proofs.Added.{with_pages-none, with_pages-turn}
use Rattle.reach_map.proofs.voices.add_chains.Goals as goal

pub loop-start-init : goal.loop-start-init
loop-start-init c = sym (with_pages-none c.args.pages.now)

pub loop-start-preserved : goal.loop-start-preserved
loop-start-preserved c =
    rw (c.add_blocks.ensures, c.loop-start.invariant)
    (with_pages-turn (chain_pages c.args.memory.now) c.args.pages.now c.args.starts.now c.loop-start.start-index record { block = 0; loop_word = 0 } c.loop-start-test.true)
