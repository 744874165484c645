use Rattle.std.proofs.Common.{rules, ◌≡◌, ◌∙◌, ℤ, ◌+ℤ◌, to_z, of_z, ap, arith}
use Rattle.std.specs.Int.{w16, w32, int_wrap}
use Rattle.std.proofs.lemmas.Int.{ints, int_wrap_fits, wrapping_add_onto}
use Rattle.num_fix.specs.Arithmetic.{scaled}
use Rattle.gauss_table.proofs.ByFactors.{by_factor-high, fraction-fits}
use Rattle.gauss_table.proofs.factors.product_by_high_factor.Goals as goal

pub returns : goal.returns
unfolding int_wrap
returns c weight is by below =
    let product : c.scaled-high.result ≡ scaled c.args.sample c.args.factor 16 = search rules in
    let high : to_z w16 (of_z w16 (to_z w32 (of_z w32 c.scaled-high.result))) ≡ c.scaled-high.result = omega (arith, ints) in
    let sum : c.scaled-high.result +ℤ c.args.sample ≡ scaled weight c.args.sample 11 =
    ap (λ (z : ℤ). z +ℤ c.args.sample) product ∙ by_factor-high weight c.args.factor c.args.sample is by below in
    wrapping_add_onto w16 (of_z w16 (to_z w32 (of_z w32 c.scaled-high.result))) c.args.sample (omega (arith, ints)) c.ranges.sample
    ∙ ap (λ (z : ℤ). int_wrap w16 (z +ℤ c.args.sample)) high ∙ ap (int_wrap w16) sum
    ∙ int_wrap_fits w16 (scaled weight c.args.sample 11) (fraction-fits weight c.args.sample is c.ranges.sample)
