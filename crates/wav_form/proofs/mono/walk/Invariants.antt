use Rattle.std.proofs.Common.{◌≡◌, ◌+◌, ◌≤◌, ◌<◌, length}
use Rattle.std.specs.Prelude.{false}
use Rattle.wav_form.specs.Chunks.{chunks_from}
use Rattle.wav_form.specs.Mono.{samples_of_chunks}
use Rattle.wav_form.proofs.mono.walk.Given as goal

-- what the chunks give that are left is what all chunks give
abbrev pub invariant-chunks : goal.invariant-chunks
invariant-chunks l = record {
  left : samples_of_chunks l.has_format (chunks_from l.place l.rest) ≡ samples_of_chunks false (chunks_from 12 l.bytes);
  inside : 0 < length l.rest → l.place + length l.rest ≤ length l.bytes + 12;
  end : l.place ≤ length l.bytes + 13;
}

abbrev pub decreases-chunks : goal.decreases-chunks
decreases-chunks l = length l.rest
