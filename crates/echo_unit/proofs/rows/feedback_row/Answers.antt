use Rattle.std.proofs.Common.{rules, ◌≡◌, ◌≢◌, ◌<◌, ℕ, pos, length, to_z, of_z, refl, ◌∙◌, arith}
use Rattle.std.specs.Int.{w16}
use Rattle.std.proofs.lemmas.List.{length-set, get_or-set_other}
use Rattle.num_fix.specs.SignedWords.{number_at}
use Rattle.echo_unit.specs.Echo.{feedback_word}
use Rattle.echo_unit.proofs.Entries.{with_entry}
use Rattle.echo_unit.proofs.rows.feedback_row.Goals as goal

pub loop-j-init : goal.loop-j-init
loop-j-init c = record { done = λ i below. absurd (omega (arith, below)); rest = λ i above below. c.row_at_volume-words.ensures i below; long = search rules }

pub loop-j-preserved : goal.loop-j-preserved
unfolding feedback_word
loop-j-preserved c =
    let j : ℕ = c.loop-j.j in
    let whole : to_z w16 (of_z w16 c.clear_bit0.result) ≡ c.clear_bit0.result = search rules in
    let row : to_z w16 (of_z w16 (number_at c.loop-j.words j)) ≡ number_at c.loop-j.words j = search rules in
    let other : to_z w16 (of_z w16 (number_at c.args.sent.now j)) ≡ number_at c.args.sent.now j = search rules in
    let limited : to_z w16 (of_z w16 c.add_clamped.result) ≡ c.add_clamped.result = search rules in
    let within : j < length c.loop-j.words = rw c.loop-j.invariant.long c.loop-j-test.true in
    let is : c.clear_bit0.result ≡ feedback_word (number_at c.args.sent.now j) (number_at c.args.heard.now j) c.args.efb =
    (rw limited at c.clear_bit0.ensures) ∙ rw (c.add_clamped.ensures, row, other, c.loop-j.invariant.rest j (omega arith) c.loop-j-test.true) refl in
    record {
      done = rw whole (with_entry (λ i. feedback_word (number_at c.args.sent.now i) (number_at c.args.heard.now i) c.args.efb) c.loop-j.words j c.clear_bit0.result (pos 0) within c.loop-j.invariant.done is);
      rest = λ i above below.
          let later : i ≢ j = λ same. absurd (omega (arith, same, above)) in
          rw whole (get_or-set_other c.loop-j.words j i c.clear_bit0.result (pos 0) later ∙ c.loop-j.invariant.rest i (omega (arith, above)) below);
      long = length-set c.loop-j.words j (to_z w16 (of_z w16 c.clear_bit0.result)) ∙ c.loop-j.invariant.long;
    }

pub returns : goal.returns
returns c j below = c.loop-j.invariant.done j (omega (arith, below))
