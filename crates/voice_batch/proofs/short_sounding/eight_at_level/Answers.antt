use Rattle.std.proofs.Common.{rules, ◌≡◌, ◌≢◌, ◌+◌, ◌<◌, ◌≤◌, ℕ, ℤ, pos, nat_le, [], length, to_z, of_z, ap, sym, ◌∙◌, arith, get_or-set_other, get_or-set_same, below_more}
use Rattle.std.specs.Int.{w16}
use Rattle.std.proofs.lemmas.List.{length-set}
use Rattle.std.proofs.lemmas.Option.{slice_get-get_or}
use Rattle.num_fix.specs.Arithmetic.{clear_bit0, scaled}
use Rattle.num_fix.specs.SignedWords.{number_at}
use Rattle.gauss_table.specs.Factors.{factor_of}
use Rattle.gauss_table.specs.declared.short_taps.ShortTaps.{ShortTaps}
use Rattle.voice_batch.specs.OutsOverRow.{AreFactorsOfLevel, short_mixed, short_mixed_at, sounding_at}
use Rattle.voice_batch.proofs.ByLevel.{scaled_comm}
use Rattle.voice_batch.proofs.short_sounding.eight_at_level.Goals as goal

pub loop-k-preserved : goal.loop-k-preserved
loop-k-preserved c =
    let k : ℕ = c.loop-k.k in
    let long : length c.loop-k.eight ≡ 8 = c.loop-k.invariant.long in
    let from : ℕ = c.args.from in
    let within : from + k < 64 = omega arith in
    let many : length c.args.taps.now ≡ 64 = search rules in
    let none : ShortTaps = record { bytes = [] } in
    let mixed : to_z w16 (of_z w16 c.mixed.result) ≡ c.mixed.result = search rules in
    let value : (level : ℕ) → level ≤ 0x7ff → AreFactorsOfLevel level c.args.factors.now → c.args.wrapped ≡ nat_le 0x400 level → c.clear_bit0.result ≡ sounding_at level (short_mixed_at c.args.taps.now (from + k)) =
    λ level most are heard. (
    let mix : c.mixed.result ≡ short_mixed_at c.args.taps.now (from + k) =
    c.mixed.ensures ∙ sym (ap short_mixed (slice_get-get_or c.args.taps.now (from + k) none (rw many within))) in
    let factor : number_at c.args.factors.now k ≡ factor_of (pos level) = are k (omega arith) in
    let product : c.product_at_level-product.result ≡ scaled (pos level) c.mixed.result 11 =
    rw mixed at (c.product_at_level-product.ensures level most (search (rules, factor)) heard) in
    let cleared : c.clear_bit0.result ≡ clear_bit0 c.product_at_level-product.result = search rules in
    cleared ∙ ap clear_bit0 (product ∙ scaled_comm (pos level) c.mixed.result ∙ ap (λ (z : ℤ). scaled z (pos level) 11) mix)) in
    let back : to_z w16 (of_z w16 c.clear_bit0.result) ≡ c.clear_bit0.result = search rules in
    rw back record {
      eight = λ level most are heard. below_more _ _
          (λ i below. let other : i ≢ k = omega arith in rw get_or-set_other (c.loop-k.invariant.eight level most are heard i below))
          (let inside : k < length c.loop-k.eight = rw long (omega arith) in rw get_or-set_same (value level most are heard));
      long = length-set c.loop-k.eight k c.clear_bit0.result ∙ long;
    }
