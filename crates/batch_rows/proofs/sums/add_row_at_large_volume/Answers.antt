use Rattle.std.proofs.Common.{rules, ◌≡◌, ◌≢◌, ◌<◌, ℕ, ◌+ℤ◌, ◌-ℤ◌, ◌*ℤ◌, ℤ, unsigned_abs, pos, to_z, of_z, length, refl, ◌∙◌, arith}
use Rattle.std.specs.Int.{w16}
use Rattle.std.proofs.lemmas.Int.{ints}
use Rattle.std.proofs.lemmas.List.{length-set, get_or-set_other}
use Rattle.num_fix.specs.Arithmetic.{clamp16, scaled}
use Rattle.num_fix.specs.SignedWords.{number_at}
use Rattle.echo_unit.proofs.Entries.{with_entry}
use Rattle.batch_rows.proofs.sums.add_row_at_large_volume.Goals as goal

pub loop-j-init : goal.loop-j-init
loop-j-init c = record { added = λ i below. absurd (omega (arith, below)); rest = λ i above. refl; long = search rules }

pub loop-j-preserved : goal.loop-j-preserved
loop-j-preserved c =
    let j : ℕ = c.loop-j.j in
    let whole : to_z w16 (of_z w16 c.with_share_at_large_volume.result) ≡ c.with_share_at_large_volume.result = search rules in
    let sum : to_z w16 (of_z w16 (number_at c.loop-j.sums j)) ≡ number_at c.loop-j.sums j = search rules in
    let out : to_z w16 (of_z w16 (number_at c.args.outs.now j)) ≡ number_at c.args.outs.now j = search rules in
    let within : j < length c.loop-j.sums = rw c.loop-j.invariant.long c.loop-j-test.true in
    let factor : to_z w16 (of_z w16 (number_at c.factors_of-factors.result j)) ≡ number_at c.factors_of-factors.result j = search rules in
    let volume : to_z w16 (of_z w16 c.args.volume) ≡ c.args.volume = search rules in
    let rest : ℤ = c.args.volume -ℤ pos 128 in
    let given : to_z w16 (of_z w16 (to_z w16 (of_z w16 c.args.volume) -ℤ pos 128)) ≡ rest = search (rules, volume) in
    let same : number_at c.factors_of-factors.result j ≡ rest *ℤ pos 512 = rw given at (c.factors_of-factors.ensures j c.loop-j-test.true) in
    let back : rest +ℤ pos 128 ≡ c.args.volume = omega (arith, ints) in
    let small : unsigned_abs (rest +ℤ pos 128) < 128 = omega (arith, ints, c.requires.least, c.requires.most) in
    let known = rw (sum, out, factor) at c.with_share_at_large_volume.ensures in
    let is : c.with_share_at_large_volume.result ≡ clamp16 (number_at c.args.sums.now j +ℤ scaled (number_at c.args.outs.now j) (to_z w16 (of_z w16 c.args.volume)) 7) =
    rw volume (rw (back, c.loop-j.invariant.rest j (omega arith)) at (known rest same small)) in
    record {
      added = rw whole (with_entry (λ i. clamp16 (number_at c.args.sums.now i +ℤ scaled (number_at c.args.outs.now i) (to_z w16 (of_z w16 c.args.volume)) 7)) c.loop-j.sums j
          c.with_share_at_large_volume.result (pos 0) within c.loop-j.invariant.added is);
      rest = λ i above.
          let other : i ≢ j = λ e. absurd (omega (arith, e, above)) in
          rw whole (get_or-set_other c.loop-j.sums j i c.with_share_at_large_volume.result (pos 0) other ∙ c.loop-j.invariant.rest i (omega (arith, above)));
      long = length-set c.loop-j.sums j (to_z w16 (of_z w16 c.with_share_at_large_volume.result)) ∙ c.loop-j.invariant.long;
    }

pub returns : goal.returns
returns c j below =
    let volume : to_z w16 (of_z w16 c.args.volume) ≡ c.args.volume = search rules in
    rw volume at (c.loop-j.invariant.added j (omega (arith, below)))
