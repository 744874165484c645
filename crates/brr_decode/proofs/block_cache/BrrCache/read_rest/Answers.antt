use Rattle.std.proofs.Common.{rules, ◌≡◌, ◌+◌, ◌-◌, ◌*◌, ◌<◌, ◌≤◌, ◌++◌, ◌∙◌, ap, sym, ℕ, List, ℤ, length, take, drop, to_z, of_z, arith}
use Rattle.std.specs.Int.{w16}
use Rattle.std.proofs.lemmas.List.{take-take}
use Rattle.num_fix.specs.SignedWords.{number_at}
use Rattle.brr_decode.specs.Kept.{EndsWith}
use Rattle.brr_decode.specs.CachedBlocks.{IsGroupAt}
use Rattle.brr_decode.proofs.GroupsOfBlock.{groups_in_row, ends_with_take, take_put}
use Rattle.brr_decode.proofs.block_cache.BrrCache.read_rest.Goals as goal

pub returns-clause-row : goal.returns-clause-row
returns-clause-row c d few =
    let g : ℕ = c.args.group in
    let len : ℕ = c.args.len in
    let row : List ℤ = c.lookup-cached.result.now.row in
    let old : List ℤ = c.args.row.now in
    let put : List ℤ = c.copy_from_slice-2.new.self in
    let cached = c.lookup-cached.ensures in
    let long : length row ≡ 32 = search rules in
    let last : to_z w16 (of_z w16 (number_at old (len - 1))) ≡ number_at old (len - 1) = search rules in
    let before : to_z w16 (of_z w16 (number_at old (len - 2))) ≡ number_at old (len - 2) = search rules in
    let from : c.from.result ≡ g = search rules in
    let sixteen : length put ≡ 16 = search rules in
    let width : 4 * g + 2 + 16 - (4 * g + 2) ≡ 16 = omega arith in
    let copied : put ≡ take 16 (drop (4 * g + 2) row) = c.copy_from_slice-2.ensures.after ∙ rw (from, width) at c.copy_from_slice.ensures.after in
    let reaches : (k : ℕ) → g ≤ k → k < 4 → IsGroupAt c.args.header c.args.digits row k =
    λ k above below. rw (cached.header_is, cached.digits_are) at (c.lookup-cached.result.now.is_block k (omega (arith, cached.reaches_back, above)) below) in
    let ends : EndsWith (take len old) (number_at row (4 * g)) (number_at row (4 * g + 1)) =
    rw (cached.last, cached.before, last, before) (ends_with_take old len c.requires.some (omega (arith, c.requires.capacity))) in
    take_put old put _ len (4 * d) (omega (arith, c.requires.capacity)) (omega (arith, sixteen, few))
    ∙ ap (λ (xs : List ℤ). take len old ++ xs) (ap (take (4 * d)) copied ∙ take-take (4 * d) 16 (drop (4 * g + 2) row) (omega (arith, few)))
    ∙ sym (groups_in_row c.args.header c.args.digits row g long reaches (take len old) ends d few)
