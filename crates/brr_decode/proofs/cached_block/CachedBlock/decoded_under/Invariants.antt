use Rattle.std.proofs.Common.{◌≡◌, ◌<◌, ◌≤◌, ◌+◌, ◌*◌, ℕ, length}
use Rattle.num_fix.specs.SignedWords.{number_at}
use Rattle.brr_decode.specs.CachedBlocks.{IsGroupAt}
use Rattle.brr_decode.proofs.cached_block.CachedBlock.decoded_under.Given as goal

abbrev pub invariant-loop-g : goal.invariant-loop-g
invariant-loop-g l = record {
  groups : (k : ℕ) → l.group ≤ k → k < l.g → IsGroupAt l.header l.digits l.row k;
  last : number_at l.row (4 * l.group + 1) ≡ l.p1;
  before : number_at l.row (4 * l.group) ≡ l.p2;
  long : length l.row ≡ 32;
}
