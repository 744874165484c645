use Rattle.std.proofs.Common.{rules, ◌≡◌, ℤ, to_z, of_z, ap, ◌∙◌}
use Rattle.std.specs.Int.{w16}
use Rattle.num_fix.specs.Arithmetic.{scaled}
use Rattle.batch_rows.proofs.Shares.{share_by_factor}
use Rattle.batch_rows.proofs.sums.with_share_at_small_volume.Goals as goal

pub returns : goal.returns
returns c volume is =
    let whole : to_z w16 (of_z w16 c.add_clamped.result) ≡ c.add_clamped.result = search rules in
    let sum : to_z w16 (of_z w16 c.args.sum) ≡ c.args.sum = search rules in
    let out : to_z w16 (of_z w16 c.args.out) ≡ c.args.out = search rules in
    let factor : to_z w16 (of_z w16 c.args.factor) ≡ c.args.factor = search rules in
    let high : to_z w16 (of_z w16 c.high_product.result) ≡ c.high_product.result = search rules in
    let share : c.high_product.result ≡ scaled c.args.out volume 7 =
    rw (out, factor) at c.high_product.ensures ∙ (ap (λ (f : ℤ). scaled c.args.out f 16) is ∙ share_by_factor c.args.out volume) in
    whole ∙ (rw (high, share, sum) at c.add_clamped.ensures)
