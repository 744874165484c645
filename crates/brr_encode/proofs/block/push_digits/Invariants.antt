use Rattle.std.proofs.Common.{◌≡◌, ◌+◌, ◌*◌, ◌%◌, ◌≤◌, ◌^◌, ◌++◌, length}
use Rattle.brr_encode.specs.Encoding.{digit_bytes}
use Rattle.brr_encode.specs.Greedy.{greedy_digits}
use Rattle.brr_encode.specs.EncoderParts.{after_targets, coder_after}
use Rattle.brr_encode.proofs.block.push_digits.Given as goal

abbrev pub invariant-pairs : goal.invariant-pairs
invariant-pairs l = record {
  bytes : l.bytes.items ++ digit_bytes (greedy_digits l.header l.coder.last l.coder.before l.rest) ≡ l.fn.bytes.items ++ digit_bytes (greedy_digits l.header l.p1 l.p2 l.targets);
  coder : after_targets l.header l.coder l.rest ≡ after_targets l.header (coder_after l.p1 l.p2) l.targets;
  pairs : length l.rest % 2 ≡ 0;
  bound : l.coder.squares + length l.rest * 2 ^ 32 ≤ 2 ^ 36;
}

abbrev pub decreases-pairs : goal.decreases-pairs
decreases-pairs l = length l.rest
