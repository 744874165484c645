use Rattle.std.proofs.Common.{rules, ◌≡◌, ◌+ℤ◌, ◌*ℤ◌, ℤ, pos, to_z, of_z, FitsSigned, ap, ◌∙◌}
use Rattle.std.specs.Int.{w16}
use Rattle.num_fix.specs.Arithmetic.{scaled}
use Rattle.batch_rows.proofs.Shares.{share_with_output, share_within}
use Rattle.batch_rows.proofs.sums.with_share_at_large_volume.Goals as goal

pub returns : goal.returns
returns c rest is small =
    let whole : to_z w16 (of_z w16 c.add_clamped-2.result) ≡ c.add_clamped-2.result = search rules in
    let sum : to_z w16 (of_z w16 c.args.sum) ≡ c.args.sum = search rules in
    let out : to_z w16 (of_z w16 c.args.out) ≡ c.args.out = search rules in
    let factor : to_z w16 (of_z w16 c.args.factor) ≡ c.args.factor = search rules in
    let high : to_z w16 (of_z w16 c.high_product.result) ≡ c.high_product.result = search rules in
    let inner : to_z w16 (of_z w16 c.add_clamped.result) ≡ c.add_clamped.result = search rules in
    let fits : FitsSigned w16 c.args.out = search rules in
    let share : c.high_product.result ≡ scaled c.args.out (rest *ℤ pos 512) 16 = rw (out, factor) at c.high_product.ensures ∙ ap (λ (f : ℤ). scaled c.args.out f 16) is in
    let both : c.add_clamped.result ≡ scaled c.args.out (rest +ℤ pos 128) 7 =
    (rw (high, out, share, share_with_output c.args.out rest) at c.add_clamped.ensures) ∙ share_within c.args.out (rest +ℤ pos 128) fits small in
    whole ∙ (rw (inner, sum, both) at c.add_clamped-2.ensures)
