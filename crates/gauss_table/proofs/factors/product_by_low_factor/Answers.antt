use Rattle.std.proofs.Common.{rules, ◌≡◌, ◌∙◌, to_z, of_z, arith}
use Rattle.std.specs.Int.{w16, w32}
use Rattle.std.proofs.lemmas.Int.{ints}
use Rattle.num_fix.specs.Arithmetic.{scaled}
use Rattle.gauss_table.proofs.ByFactors.{by_factor-low}
use Rattle.gauss_table.proofs.factors.product_by_low_factor.Goals as goal

pub returns : goal.returns
returns c weight is by low =
    let product : c.scaled.result ≡ scaled c.args.sample c.args.factor 16 = search rules in
    let high : to_z w16 (of_z w16 (to_z w32 (of_z w32 c.scaled.result))) ≡ c.scaled.result = omega (arith, ints) in
    high ∙ product ∙ by_factor-low weight c.args.factor c.args.sample is by low
