use Rattle.std.proofs.Common.{rules, ◌≡◌, ◌≢◌, ◌<◌, ℕ, pos, length, to_z, of_z, refl, ◌∙◌, arith}
use Rattle.std.specs.Int.{w16}
use Rattle.std.proofs.lemmas.List.{length-set, get_or-set_other}
use Rattle.num_fix.specs.SignedWords.{number_at}
use Rattle.echo_unit.specs.Echo.{side_output}
use Rattle.echo_unit.proofs.Entries.{with_entry}
use Rattle.echo_unit.proofs.rows.row_of_outputs.Goals as goal

pub loop-j-init : goal.loop-j-init
loop-j-init c = record { done = λ i below. absurd (omega (arith, below)); rest = λ i above below. c.row_at_volume-outputs.ensures i below; long = search rules }

pub loop-j-preserved : goal.loop-j-preserved
unfolding side_output
loop-j-preserved c =
    let j : ℕ = c.loop-j.j in
    let whole : to_z w16 (of_z w16 c.add_clamped.result) ≡ c.add_clamped.result = search rules in
    let row : to_z w16 (of_z w16 (number_at c.loop-j.outputs j)) ≡ number_at c.loop-j.outputs j = search rules in
    let other : to_z w16 (of_z w16 (number_at c.row_at_volume-echoes.result j)) ≡ number_at c.row_at_volume-echoes.result j = search rules in
    let within : j < length c.loop-j.outputs = rw c.loop-j.invariant.long c.loop-j-test.true in
    let is : c.add_clamped.result ≡ side_output (number_at c.args.main.now j) c.args.main_volume (number_at c.args.echo.now j) c.args.echo_volume =
    c.add_clamped.ensures ∙ rw (row, other, c.loop-j.invariant.rest j (omega arith) c.loop-j-test.true, c.row_at_volume-echoes.ensures j c.loop-j-test.true) refl in
    record {
      done = rw whole (with_entry (λ i. side_output (number_at c.args.main.now i) c.args.main_volume (number_at c.args.echo.now i) c.args.echo_volume) c.loop-j.outputs j c.add_clamped.result (pos 0) within c.loop-j.invariant.done is);
      rest = λ i above below.
          let later : i ≢ j = λ same. absurd (omega (arith, same, above)) in
          rw whole (get_or-set_other c.loop-j.outputs j i c.add_clamped.result (pos 0) later ∙ c.loop-j.invariant.rest i (omega (arith, above)) below);
      long = length-set c.loop-j.outputs j (to_z w16 (of_z w16 c.add_clamped.result)) ∙ c.loop-j.invariant.long;
    }

pub returns : goal.returns
returns c j below = c.loop-j.invariant.done j (omega (arith, below))
