use Rattle.std.proofs.Common.{◌≡◌, length}
use Rattle.brr_decode.specs.Kept.{with_all_kept, digits_of, samples_of, EndsWith}
use Rattle.brr_decode.proofs.stream.decode_stream.Given as goal

-- the samples so far, and after them those of the bytes that are left, are those of all bytes
abbrev pub invariant-each : goal.invariant-each
invariant-each l = record {
  so_far : with_all_kept l.samples.items (digits_of l.rest) ≡ samples_of l.bytes;
  ends : EndsWith l.samples.items l.before l.last;
}

abbrev pub decreases-each : goal.decreases-each
decreases-each l = length l.rest
