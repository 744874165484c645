use Rattle.std.proofs.Common.{◌≡◌, ◌/◌, ◌%◌, ◌+◌, ◌*◌, ◌≤◌, ◌∷◌, [], length, reverse}
use Rattle.brr_encode.specs.Encoding.{max_samples}
use Rattle.brr_search.specs.Candidates.{no_candidate}
use Rattle.brr_search.specs.Beam.{blocks_through}
use Rattle.brr_search.specs.Links.{blocks_along}
use Rattle.brr_search.proofs.beam.search_blocks.Given as goal

-- the blocks through the targets that are left, after those of each candidate so far, are those through all targets
abbrev pub invariant-each : goal.invariant-each
invariant-each l = record {
  through : blocks_through l.most (length l.rest / 16) l.index l.loop_block l.looped l.search.candidates.items (blocks_along (reverse l.search.rows.items)) l.rest
      ≡ blocks_through l.most (length l.targets / 16) 0 l.loop_block l.looped (no_candidate ∷ []) (λ _. []) l.targets;
  whole : length l.rest % 16 ≡ 0;
  index : 16 * l.index + length l.rest ≤ max_samples;
  few : length l.search.candidates.items ≤ 64;
}

abbrev pub decreases-each : goal.decreases-each
decreases-each l = length l.rest
