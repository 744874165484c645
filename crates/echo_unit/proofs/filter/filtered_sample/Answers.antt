use Rattle.std.proofs.Common.{◌≡◌, ◌<◌, List, ℤ, ◌+ℤ◌, length, pos, take, to_z, of_z, rules, arith, refl, ap, sym, ◌∙◌}
use Rattle.std.specs.Int.{w16}
use Rattle.std.proofs.lemmas.List.Sums.{fold_more}
use Rattle.num_fix.specs.Arithmetic.{wrap16, clamp16, clear_bit0}
use Rattle.num_fix.specs.SignedWords.{number_at}
use Rattle.echo_unit.specs.Fir.{signed_sum, taps, eight_from, filtered_sample}
use Rattle.echo_unit.proofs.Products.{wrap16-sum}
use Rattle.echo_unit.proofs.Taps.{length-taps, length-eight_from, is_tap}
use Rattle.echo_unit.proofs.filter.filtered_sample.Goals as goal

pub loop-i-init : goal.loop-i-init
unfolding wrap16
loop-i-init c = refl

pub loop-i-preserved : goal.loop-i-preserved
loop-i-preserved c =
    let samples : List ℤ = eight_from c.args.row.now c.args.place in
    let eight : length samples ≡ 8 = length-eight_from c.args.row.now c.args.place c.requires in
    let eight' : length c.args.coefficients.now ≡ 8 = search rules in
    let given : List ℤ = taps samples c.args.coefficients.now in
    let count = length-taps samples c.args.coefficients.now (eight ∙ sym eight') in
    let within : c.loop-i.i < length given = omega (arith, count, eight) in
    let more = fold_more (λ (s : ℤ) (z : ℤ). s +ℤ z) (pos 0) given c.loop-i.i (pos 0) within in
    let tap : c.tap.result ≡ wrap16 (number_at given c.loop-i.i) =
    c.tap.ensures ∙ ap wrap16 (is_tap c.args.row.now c.args.coefficients.now c.args.place c.loop-i.i c.requires eight' (omega arith)) in
    let whole : to_z w16 (of_z w16 c.wrapped_sum-sum.result) ≡ c.wrapped_sum-sum.result = search rules in
    let sum : c.wrapped_sum-sum.result ≡ wrap16 (c.loop-i.sum +ℤ c.tap.result) = search rules in
    let before : c.loop-i.sum ≡ wrap16 (signed_sum (take c.loop-i.i given)) = cc (c.loop-i.invariant) in
    rw (whole, sum, before, tap) (wrap16-sum (signed_sum (take c.loop-i.i given)) (number_at given c.loop-i.i) ∙ ap wrap16 (sym more))

pub returns : goal.returns
unfolding filtered_sample
returns c =
    let samples : List ℤ = eight_from c.args.row.now c.args.place in
    let eight' : length c.args.coefficients.now ≡ 8 = search rules in
    let whole : to_z w16 (of_z w16 c.clear_bit0.result) ≡ c.clear_bit0.result = search rules in
    let cleared : c.clear_bit0.result ≡ clear_bit0 c.add_clamped.result = search rules in
    let added : c.add_clamped.result ≡ clamp16 (c.loop-i.sum +ℤ c.tap-2.result) = search rules in
    let tap : c.tap-2.result ≡ wrap16 (number_at (taps samples c.args.coefficients.now) 7) =
    c.tap-2.ensures ∙ ap wrap16 (is_tap c.args.row.now c.args.coefficients.now c.args.place 7 c.requires eight' (omega arith)) in
    let seven : c.loop-i.i ≡ 7 = omega arith in
    let sum : c.loop-i.sum ≡ wrap16 (signed_sum (take c.loop-i.i (taps samples c.args.coefficients.now))) = cc (c.loop-i.invariant) in
    rw (whole, cleared, added, tap, sum, seven)
