use Rattle.std.proofs.Common.{rules, ◌≡◌, ◌<◌, ◌≤◌, pos, to_z, of_z, ◌∙◌, arith}
use Rattle.std.specs.Int.{w16}
use Rattle.std.proofs.lemmas.Bool.Decides.{nat_tests}
use Rattle.gauss_table.proofs.ByFactors.{factor-low-sign, factor-high-sign}
use Rattle.voice_batch.proofs.ByLevel.{level_is_fraction}
use Rattle.voice_batch.proofs.short_sounding.product_at_level.Goals as goal

pub returns-then-wrapped : goal.returns-then-wrapped
returns-then-wrapped c level most is heard =
    let factor : to_z w16 (of_z w16 c.args.factor) ≡ c.args.factor = search rules in
    let sample : to_z w16 (of_z w16 c.args.sample) ≡ c.args.sample = search rules in
    let whole : to_z w16 (of_z w16 c.product_by_high_factor.result) ≡ c.product_by_high_factor.result = search rules in
    let half : 1024 ≤ level = grind (arith, nat_tests, heard, c.if-wrapped.true) in
    whole ∙ rw (factor, sample) at (c.product_by_high_factor.ensures (pos level) (level_is_fraction level most)) is (rw is (factor-high-sign level half (omega arith)))

pub returns-else-wrapped : goal.returns-else-wrapped
returns-else-wrapped c level most is heard =
    let factor : to_z w16 (of_z w16 c.args.factor) ≡ c.args.factor = search rules in
    let sample : to_z w16 (of_z w16 c.args.sample) ≡ c.args.sample = search rules in
    let whole : to_z w16 (of_z w16 c.product_by_low_factor.result) ≡ c.product_by_low_factor.result = search rules in
    let small : level < 1024 = grind (arith, nat_tests, heard, c.if-wrapped.false) in
    whole ∙ rw (factor, sample) at (c.product_by_low_factor.ensures (pos level) (level_is_fraction level most)) is (rw is (factor-low-sign level small))
