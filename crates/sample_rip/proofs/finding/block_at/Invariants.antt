use Rattle.std.proofs.Common.{◌≡◌, ◌<◌, ℕ, false}
use Rattle.std.specs.Prelude.{◌==◌}
use Rattle.sample_rip.specs.Blocks.{block_address}
use Rattle.sample_rip.proofs.finding.block_at.Given as goal

-- none of the blocks so far stands at the address
abbrev pub invariant-loop-block : goal.invariant-loop-block
invariant-loop-block l = (k : ℕ) → k < l.block → (block_address l.start k == l.address) ≡ false
