use Rattle.std.proofs.Common.{rules, ◌≡◌, ◌≢◌, ◌<◌, ◌+◌, ℕ, ℤ, ◌+ℤ◌, ◌*ℤ◌, pos, to_z, of_z, length, refl, ◌∙◌, arith}
use Rattle.std.specs.Int.{w16}
use Rattle.std.proofs.lemmas.List.{length-set, get_or-set_other}
use Rattle.num_fix.specs.Arithmetic.{wrap16}
use Rattle.num_fix.specs.SignedWords.{number_at}
use Rattle.echo_unit.proofs.Entries.{with_entry}
use Rattle.echo_unit.proofs.Products.{wrap16-sum_right}
use Rattle.echo_unit.proofs.parts.add_whole.Goals as goal

pub loop-j-init : goal.loop-j-init
loop-j-init c = record { added = λ i below. absurd (omega (arith, below)); rest = λ i above. refl; long = search rules }

pub loop-j-preserved : goal.loop-j-preserved
loop-j-preserved c =
    let j : ℕ = c.loop-j.j in
    let factor : ℤ = to_z w16 (of_z w16 c.args.whole) in
    let want : ℕ → ℤ = λ i. wrap16 (number_at c.args.sums.now i +ℤ number_at c.args.row.now (c.args.place + i) *ℤ factor) in
    let whole : to_z w16 (of_z w16 c.wrapped_sum.result) ≡ c.wrapped_sum.result = search rules in
    let product : to_z w16 (of_z w16 c.wrapped_product.result) ≡ c.wrapped_product.result = search rules in
    let sum : to_z w16 (of_z w16 (number_at c.loop-j.sums j)) ≡ number_at c.loop-j.sums j = search rules in
    let sample : to_z w16 (of_z w16 (number_at c.args.row.now (c.args.place + j))) ≡ number_at c.args.row.now (c.args.place + j) = search rules in
    let made : to_z w16 (of_z w16 (number_at c.row_of-wholes.result j)) ≡ number_at c.row_of-wholes.result j = search rules in
    let is_factor : number_at c.row_of-wholes.result j ≡ factor = c.row_of-wholes.ensures j c.loop-j-test.true in
    let within : j < length c.loop-j.sums = rw c.loop-j.invariant.long c.loop-j-test.true in
    let times : c.wrapped_product.result ≡ wrap16 (number_at c.args.row.now (c.args.place + j) *ℤ factor) = rw (sample, made, is_factor) at c.wrapped_product.ensures in
    let is : c.wrapped_sum.result ≡ want j =
    (rw (sum, product, times, c.loop-j.invariant.rest j (omega arith)) at c.wrapped_sum.ensures) ∙ wrap16-sum_right (number_at c.args.sums.now j) (number_at c.args.row.now (c.args.place + j) *ℤ factor) in
    record {
      added = rw whole (with_entry want c.loop-j.sums j c.wrapped_sum.result (pos 0) within c.loop-j.invariant.added is);
      rest = λ i above.
          let other : i ≢ j = λ same. absurd (omega (arith, same, above)) in
          rw whole (get_or-set_other c.loop-j.sums j i c.wrapped_sum.result (pos 0) other ∙ c.loop-j.invariant.rest i (omega (arith, above)));
      long = length-set c.loop-j.sums j (to_z w16 (of_z w16 c.wrapped_sum.result)) ∙ c.loop-j.invariant.long;
    }

pub returns : goal.returns
returns c j below =
    let factor : to_z w16 (of_z w16 c.args.whole) ≡ c.args.whole = search rules in
    rw factor at (c.loop-j.invariant.added j (omega (arith, below)))
