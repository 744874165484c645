use Rattle.std.proofs.Common.{◌≡◌, ◌/◌, ◌%◌, ◌+◌, ◌*◌, ◌≤◌, ◌++◌, length}
use Rattle.std.specs.List.{All}
use Rattle.brr_encode.specs.Report.{IsWithin}
use Rattle.brr_encode.specs.Encoding.{encoding_from, blocks_of, max_samples}
use Rattle.brr_encode.specs.EncoderParts.{block_reports, all_reports}
use Rattle.brr_encode.proofs.encoder.encode_from.Given as goal

-- the blocks so far, and after them those of the targets that are left, are all blocks
abbrev pub invariant-each : goal.invariant-each
invariant-each l = record {
  bytes : l.bytes.items ++ blocks_of (length l.rest / 16) l.index l.loop_block l.looped l.coder.last l.coder.before l.rest ≡ encoding_from l.loop_block l.samples l.looped;
  reports : l.reports.items ++ block_reports (length l.rest / 16) l.index l.loop_block l.looped l.coder.last l.coder.before l.rest ≡ all_reports l.loop_block l.samples l.looped;
  whole : length l.rest % 16 ≡ 0;
  few : 16 * length l.reports.items + length l.rest ≤ max_samples;
  index : 16 * l.index + length l.rest ≤ max_samples;
  within : All IsWithin l.reports.items;
}

abbrev pub decreases-each : goal.decreases-each
decreases-each l = length l.rest
