use Rattle.std.proofs.Common.{rules, ◌≡◌, ◌<◌, ◌≤◌, ◌+◌, ◌*◌, ◌-◌, ◌++◌, ◌∙◌, ℕ, List, ℤ, length, take, drop, to_z, of_z, length-append, length-drop, arith}
use Rattle.std.specs.Int.{w16}
use Rattle.std.proofs.lemmas.List.{length-take-le}
use Rattle.num_fix.specs.SignedWords.{number_at}
use Rattle.brr_decode.specs.Kept.{EndsWith, with_group}
use Rattle.brr_decode.specs.CachedBlocks.{byte_of}
use Rattle.brr_decode.proofs.GroupsOfBlock.{groups_more, entry_before}
use Rattle.brr_decode.proofs.cached_block.CachedBlock.decoded_under.Goals as goal

pub loop-g-preserved : goal.loop-g-preserved
loop-g-preserved c =
    let g : ℕ = c.loop-g.g in
    let row : List ℤ = c.loop-g.row in
    let kept : List ℤ = c.copy_from_slice.new.self in
    let at : c.from-at.result ≡ g = search rules in
    let last : to_z w16 (of_z w16 (number_at row (4 * g + 1))) ≡ number_at row (4 * g + 1) = search rules in
    let before : to_z w16 (of_z w16 (number_at row (4 * g))) ≡ number_at row (4 * g) = search rules in
    let high : c.byte_of-high.result ≡ byte_of c.args.digits (2 * g) = search rules in
    let low : c.byte_of-low.result ≡ byte_of c.args.digits (2 * g + 1) = search rules in
    let four : length kept ≡ 4 = search rules in
    let same : kept ≡ c.group_under-kept.result = search rules in
    let within : 4 * g + 6 ≤ length row = omega (arith, c.loop-g.invariant.long, c.loop-g-test.true) in
    let made : (samples : List ℤ) → EndsWith samples (number_at row (4 * g)) (number_at row (4 * g + 1))
    → with_group samples c.args.header (byte_of c.args.digits (2 * g)) (byte_of c.args.digits (2 * g + 1)) ≡ samples ++ kept =
    λ samples ends. rw same (rw (at, last, before, high, low) at c.group_under-kept.ensures samples ends) in
    let rest : List ℤ = drop 4 (drop (4 * g + 2) row) in
    let size : 4 * g + 6 - (4 * g + 2) ≡ 4 = omega arith in
    let first : 4 * c.args.group + 1 < 4 * g + 2 = omega arith in
    rw (at, size) (record {
      groups = groups_more c.args.header c.args.digits row kept _ g within four c.args.group c.loop-g.invariant.groups made;
      last = entry_before c.args.header c.args.digits row kept _ g within four (4 * c.args.group + 1) first ∙ c.loop-g.invariant.last;
      before = entry_before c.args.header c.args.digits row kept _ g within four (4 * c.args.group) (omega (arith, first)) ∙ c.loop-g.invariant.before;
      long = omega (arith, length-append (take (4 * g + 2) row) (kept ++ rest), length-append kept rest, length-take-le (4 * g + 2) row (omega (arith, within)), length-drop 4 (drop (4 * g + 2) row), length-drop (4 * g + 2) row, within, four, c.loop-g.invariant.long);
    })
