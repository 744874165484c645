use Rattle.std.proofs.Common.{rules, ◌≡◌, ◌+◌, ◌%◌, ◌<◌, ℕ, Some, slice_get, slice_index, length, to_z, of_z, ap, sym, ◌∙◌, arith}
use Rattle.std.specs.Int.{w16}
use Rattle.std.proofs.lemmas.List.{length-set}
use Rattle.std.proofs.lemmas.Option.{slice_get_read}
use Rattle.num_fix.specs.Arithmetic.{clear_bit0}
use Rattle.gauss_table.specs.Interpolation.{mix_of}
use Rattle.gauss_table.specs.declared.taps.Taps.{Taps}
use Rattle.voice_batch.specs.OutsOverRow.{mixed, mixed_at, sounding_at}
use Rattle.voice_batch.proofs.PartsOfRow.{part_more, part_before}
use Rattle.voice_batch.proofs.sounding.put_by_levels.Goals as goal

pub loop-j-preserved : goal.loop-j-preserved
loop-j-preserved c =
    let j : ℕ = c.loop-j.j in
    let from : c.from-from.result ≡ c.args.at = c.from-from.ensures in
    let end : c.from-j-end.result ≡ c.args.n = c.from-j-end.ensures in
    let below : j < c.args.n = omega (arith, c.loop-j-test.true) in
    let level : ℕ = slice_index c.args.levels.now (c.args.at + j) % 0x800 in
    let long : length c.args.taps.now ≡ 64 = search rules in
    let known : slice_get c.args.taps.now j ≡ Some c.index-taps-j.result =
    slice_get_read c.args.taps.now 64 j c.index-taps-j.result (sym long) (omega (arith, below, c.requires.few)) c.index-taps-j.is in
    let mix : c.mixed.result ≡ mixed_at c.args.taps.now j =
    c.mixed.ensures ∙ ap (λ (t : Taps). mix_of t.oldest t.older t.newer t.newest) (sym c.index-taps-j.is) ∙ sym (ap mixed known) in
    let first : to_z w16 (of_z w16 c.mixed.result) ≡ c.mixed.result = search rules in
    let second : to_z w16 (of_z w16 c.at_level.result) ≡ c.at_level.result = search rules in
    let third : to_z w16 (of_z w16 c.clear_bit0.result) ≡ c.clear_bit0.result = search rules in
    let value : c.clear_bit0.result ≡ sounding_at level (mixed_at c.args.taps.now j) =
    rw second at c.clear_bit0.ensures ∙ ap clear_bit0 (rw (first, mix, from) at c.at_level.ensures) in
    let within : c.args.at + j < length c.loop-j.outs = rw c.loop-j.invariant.long (omega (arith, below, c.requires.few)) in
    record {
      outs = rw (from, third) (part_more c.loop-j.outs c.args.at j c.clear_bit0.result (λ (i : ℕ). sounding_at (slice_index c.args.levels.now (c.args.at + i) % 0x800) (mixed_at c.args.taps.now i)) within c.loop-j.invariant.outs value);
      before = λ i before. rw (from, third) (part_before c.loop-j.outs c.args.at j i c.clear_bit0.result before ∙ c.loop-j.invariant.before i before);
      long = length-set c.loop-j.outs (c.from-from.result + j) (to_z w16 (of_z w16 c.clear_bit0.result)) ∙ c.loop-j.invariant.long;
    }
