use Rattle.std.proofs.Common.{◌≡◌, ◌<◌, ℕ, false}
use Rattle.sample_rip.specs.Blocks.{ends_at}
use Rattle.sample_rip.proofs.finding.last_block.Given as goal

-- none of the blocks so far has its end bit
abbrev pub invariant-loop-block : goal.invariant-loop-block
invariant-loop-block l = (k : ℕ) → k < l.block → ends_at l.memory l.start k ≡ false
