use Rattle.std.proofs.Common.{rules, ◌≡◌, ◌+◌, ◌*◌, ◌%◌, ◌<◌, ℕ, pos, length, slice_index, to_z, of_z, ap, ◌∙◌, arith}
use Rattle.std.specs.Int.{w16}
use Rattle.std.proofs.lemmas.List.{length-set}
use Rattle.num_fix.specs.Arithmetic.{clear_bit0, wrap16}
use Rattle.voice_batch.specs.OutsOverRow.{sounding_at}
use Rattle.voice_batch.proofs.PartsOfRow.{part_more, part_before}
use Rattle.voice_batch.proofs.sounding.put_noise_by_levels.Goals as goal

pub loop-j-preserved : goal.loop-j-preserved
loop-j-preserved c =
    let j : ℕ = c.loop-j.j in
    let from : c.from-from.result ≡ c.args.at = c.from-from.ensures in
    let end : c.from-j-end.result ≡ c.args.n = c.from-j-end.ensures in
    let below : j < c.args.n = omega (arith, c.loop-j-test.true) in
    let level : ℕ = slice_index c.args.levels.now (c.args.at + j) % 0x800 in
    let noise : c.wrap16-source.result ≡ wrap16 (pos (2 * slice_index c.args.noise.now (c.args.at + j))) = search rules in
    let first : to_z w16 (of_z w16 c.wrap16-source.result) ≡ c.wrap16-source.result = search rules in
    let second : to_z w16 (of_z w16 c.at_level.result) ≡ c.at_level.result = search rules in
    let third : to_z w16 (of_z w16 c.clear_bit0.result) ≡ c.clear_bit0.result = search rules in
    let value : c.clear_bit0.result ≡ sounding_at level (wrap16 (pos (2 * slice_index c.args.noise.now (c.args.at + j)))) =
    rw second at c.clear_bit0.ensures ∙ ap clear_bit0 (rw (first, noise, from) at c.at_level.ensures) in
    let within : c.args.at + j < length c.loop-j.outs = rw c.loop-j.invariant.long (omega (arith, below, c.requires.few)) in
    record {
      outs = rw (from, third) (part_more c.loop-j.outs c.args.at j c.clear_bit0.result
          (λ (i : ℕ). sounding_at (slice_index c.args.levels.now (c.args.at + i) % 0x800) (wrap16 (pos (2 * slice_index c.args.noise.now (c.args.at + i)))))
          within c.loop-j.invariant.outs value);
      before = λ i before. rw (from, third) (part_before c.loop-j.outs c.args.at j i c.clear_bit0.result before ∙ c.loop-j.invariant.before i before);
      long = length-set c.loop-j.outs (c.from-from.result + j) (to_z w16 (of_z w16 c.clear_bit0.result)) ∙ c.loop-j.invariant.long;
    }
