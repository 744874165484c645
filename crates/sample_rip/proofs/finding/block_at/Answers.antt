use Rattle.std.proofs.Common.{◌≡◌, ◌∙◌, sym, true, ◌+◌, arith}
use Rattle.std.specs.Prelude.{◌==◌}
use Rattle.std.proofs.lemmas.Bool.Decides.{nat_tests}
use Rattle.sample_rip.specs.Rip.{block_at}
use Rattle.sample_rip.specs.Blocks.{block_address}
use Rattle.sample_rip.proofs.FirstPlaces.{none_passes, first_passes}
use Rattle.sample_rip.proofs.finding.block_at.Goals as goal

pub returns-then-block_address-address-clause-block : goal.returns-then-block_address-address-clause-block
unfolding block_at
returns-then-block_address-address-clause-block c =
    let same = sym c.block_address.ensures ∙ c.if-block_address-address.true in
    let passes : (block_address c.args.start c.loop-block.block == c.args.address) ≡ true = grind (arith, nat_tests, same) in
    sym (first_passes (λ block. block_address c.args.start block == c.args.address) 0 (c.args.last + 1) c.loop-block.block (omega arith) (omega (arith, c.loop-block-test.true)) passes (λ k above below. c.loop-block.invariant k below))

pub returns-clause-block : goal.returns-clause-block
unfolding block_at
returns-clause-block c =
    sym (none_passes (λ block. block_address c.args.start block == c.args.address) 0 (c.args.last + 1) (λ k above below. c.loop-block.invariant k (omega (arith, below, c.loop-block-test.false))))
