use Rattle.std.proofs.Common.{◌≡◌, ◌*◌, ◌≤◌, take}
use Rattle.brr_encode.specs.Report.{max_squares}
use Rattle.sample_rip.specs.Reencoded.{errors_of}
use Rattle.sample_rip.proofs.reencoding.errors_of.Given as goal

-- the errors of the blocks so far
abbrev pub invariant-loop-block : goal.invariant-loop-block
invariant-loop-block l = record {
  so_far : l.errors ≡ errors_of (take l.block-index l.blocks);
  small : l.errors.squares ≤ l.block-index * max_squares;
}
