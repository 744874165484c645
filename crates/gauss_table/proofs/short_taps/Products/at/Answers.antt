use Rattle.std.proofs.Common.{rules, arith, ℕ, ◌≡◌, ◌+◌, ◌-◌, get_or, pos, to_z, of_z, ap, refl}
use Rattle.std.specs.Int.{w16}
use Rattle.std.proofs.lemmas.Option.{get_or_from_slice_get}
use Rattle.num_fix.specs.SignedWords.{number_at}
use Rattle.gauss_table.specs.Interpolation.{mix, tap}
use Rattle.gauss_table.specs.Factors.{factors_at}
use Rattle.gauss_table.specs.declared.factors.Factors.{Factors}
use Rattle.gauss_table.proofs.short_taps.Products.at.Goals as goal

pub returns : goal.returns
unfolding mix
returns c table are_factors =
    let none : Factors = record { oldest = pos 0; older = pos 0; newer = pos 0; newest = pos 0 } in
    let factors : get_or c.args.factors.now c.from.result none ≡ factors_at table c.args.i =
    rw c.from.ensures (get_or_from_slice_get _ c.args.i _ none (are_factors.each c.args.i (omega arith))) in
    let i : ℕ = c.args.i in
    let x0 : to_z w16 (of_z w16 c.args.x0) ≡ c.args.x0 = search rules in
    let x1 : to_z w16 (of_z w16 c.args.x1) ≡ c.args.x1 = search rules in
    let x2 : to_z w16 (of_z w16 c.args.x2) ≡ c.args.x2 = search rules in
    let x3 : to_z w16 (of_z w16 c.args.x3) ≡ c.args.x3 = search rules in
    let z0 : c.product_by_factor.result ≡ tap (number_at table (255 - i)) c.args.x0 =
    rw x0 at (c.product_by_factor.ensures (number_at table (255 - i)) (are_factors.fractions (255 - i) (omega arith)) (search (rules, ap (λ (f : Factors). f.oldest) factors))) in
    let z1 : c.product_by_factor-2.result ≡ tap (number_at table (511 - i)) c.args.x1 =
    rw x1 at (c.product_by_factor-2.ensures (number_at table (511 - i)) (are_factors.fractions (511 - i) (omega arith)) (search (rules, ap (λ (f : Factors). f.older) factors))) in
    let z2 : c.product_by_factor-3.result ≡ tap (number_at table (256 + i)) c.args.x2 =
    rw x2 at (c.product_by_factor-3.ensures (number_at table (256 + i)) (are_factors.fractions (256 + i) (omega arith)) (search (rules, ap (λ (f : Factors). f.newer) factors))) in
    let z3 : c.product_by_factor-4.result ≡ tap (number_at table (i)) c.args.x3 =
    rw x3 at (c.product_by_factor-4.ensures (number_at table (i)) (are_factors.fractions (i) (omega arith)) (search (rules, ap (λ (f : Factors). f.newest) factors))) in
    let y0 : to_z w16 (of_z w16 c.product_by_factor.result) ≡ c.product_by_factor.result = search rules in
    let y1 : to_z w16 (of_z w16 c.product_by_factor-2.result) ≡ c.product_by_factor-2.result = search rules in
    let y2 : to_z w16 (of_z w16 c.product_by_factor-3.result) ≡ c.product_by_factor-3.result = search rules in
    let y3 : to_z w16 (of_z w16 c.product_by_factor-4.result) ≡ c.product_by_factor-4.result = search rules in
    rw (y0, y1, y2, y3, z0, z1, z2, z3) refl
