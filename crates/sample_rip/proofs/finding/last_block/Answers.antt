use Rattle.std.proofs.Common.{◌≡◌, ◌∙◌, sym, true, arith}
use Rattle.brr_encode.specs.Encoding.{max_blocks}
use Rattle.sample_rip.specs.Rip.{last_block}
use Rattle.sample_rip.specs.Blocks.{ends_at}
use Rattle.sample_rip.proofs.FirstPlaces.{none_passes, first_passes}
use Rattle.sample_rip.proofs.finding.last_block.Goals as goal

pub returns-then-ends_at-clause-block : goal.returns-then-ends_at-clause-block
unfolding last_block
returns-then-ends_at-clause-block c =
    let passes : ends_at c.args.memory.now c.args.start c.loop-block.block ≡ true = sym c.ends_at.ensures ∙ c.if-ends_at.true in
    sym (first_passes (ends_at c.args.memory.now c.args.start) 0 max_blocks c.loop-block.block (omega arith) (omega (arith, c.loop-block-test.true)) passes (λ k above below. c.loop-block.invariant k below))

pub returns-clause-block : goal.returns-clause-block
unfolding last_block
returns-clause-block c =
    sym (none_passes (ends_at c.args.memory.now c.args.start) 0 max_blocks (λ k above below. c.loop-block.invariant k (omega (arith, below, c.loop-block-test.false))))
