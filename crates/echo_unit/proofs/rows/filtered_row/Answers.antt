use Rattle.std.proofs.Common.{rules, ◌≡◌, ◌<◌, ◌+◌, ℕ, pos, length, to_z, of_z, refl, ◌∙◌, arith}
use Rattle.std.specs.Int.{w16}
use Rattle.std.proofs.lemmas.List.{length-set}
use Rattle.num_fix.specs.SignedWords.{number_at}
use Rattle.echo_unit.specs.Fir.{filtered_sample, eight_from}
use Rattle.echo_unit.proofs.Entries.{with_entry}
use Rattle.echo_unit.proofs.rows.filtered_row.Goals as goal

pub loop-j-init : goal.loop-j-init
loop-j-init c = record { done = λ i below. absurd (omega (arith, below)); long = search rules }

pub loop-j-preserved : goal.loop-j-preserved
unfolding filtered_sample
loop-j-preserved c =
    let j : ℕ = c.loop-j.j in
    let whole : to_z w16 (of_z w16 c.clear_bit0.result) ≡ c.clear_bit0.result = search rules in
    let sum : to_z w16 (of_z w16 (number_at c.row_of_taps-sums.result j)) ≡ number_at c.row_of_taps-sums.result j = search rules in
    let last : to_z w16 (of_z w16 (number_at c.row_of_last_tap-last.result j)) ≡ number_at c.row_of_last_tap-last.result j = search rules in
    let limited : to_z w16 (of_z w16 c.add_clamped.result) ≡ c.add_clamped.result = search rules in
    let within : j < length c.loop-j.heard = rw c.loop-j.invariant.long c.loop-j-test.true in
    let is : c.clear_bit0.result ≡ filtered_sample (eight_from c.args.row.now (j + 1)) c.args.coefficients.now =
    (rw limited at c.clear_bit0.ensures) ∙ rw (c.add_clamped.ensures, sum, last, c.row_of_taps-sums.ensures j c.loop-j-test.true, c.row_of_last_tap-last.ensures j c.loop-j-test.true) refl in
    record {
      done = rw whole (with_entry (λ i. filtered_sample (eight_from c.args.row.now (i + 1)) c.args.coefficients.now) c.loop-j.heard j c.clear_bit0.result (pos 0) within
          c.loop-j.invariant.done is);
      long = length-set c.loop-j.heard j (to_z w16 (of_z w16 c.clear_bit0.result)) ∙ c.loop-j.invariant.long;
    }

pub returns : goal.returns
returns c j below = c.loop-j.invariant.done j (omega (arith, below))
