use Rattle.std.proofs.Common.{◌≡◌, ◌+◌, ◌-◌, ◌*◌, ◌<◌, inl, inr, min, ℕ, ◌∙◌, arith}
use Rattle.std.proofs.lemmas.Bool.{cases_lt}
use Rattle.voice_batch.proofs.short_sounding.put_short_by_levels.Goals as goal

pub loop-c-preserved : goal.loop-c-preserved
loop-c-preserved c =
    let from : ℕ = c.min-from.result in
    let at : ℕ = c.args.at in
    let begin : c.from-begin.result ≡ at = c.from-begin.ensures in
    let last : c.from-last.result ≡ 56 - at = c.from-last.ensures in
    let chosen : from ≡ min (8 * c.loop-c.c) (56 - at) = omega (arith, c.min-from.ensures) in
    record {
      outs = λ i below within. elim (cases_lt i from) [
        | inl passed ↦ (
            let early : i < 8 * c.loop-c.c = omega arith in
            let lower : at + i < c.from-begin.result + from = omega arith in
            c.put_eight.ensures.before (at + i) lower ∙ c.loop-c.invariant.outs i early within)
        | inr new ↦ (
            let near : i - from < 8 = omega arith in
            let same : from + (i - from) ≡ i = omega arith in
            let there : c.from-begin.result + from + (i - from) ≡ at + i = omega arith in
            rw (there, same) at (c.put_eight.ensures.outs (i - from) near ∙ c.eight_by_levels-eight.ensures (i - from) near))
      ];
      before = λ i before. c.put_eight.ensures.before i (omega arith) ∙ c.loop-c.invariant.before i before;
    }
