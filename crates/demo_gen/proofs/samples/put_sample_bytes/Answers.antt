use Rattle.std.proofs.Common.{◌∙◌, ◌+◌, ℕ, [], ◌∷◌, ◌++◌, ap, add-one}
use Rattle.demo_gen.specs.Draws.{draw}
use Rattle.demo_gen.specs.Samples.{sample_byte}
use Rattle.demo_gen.proofs.OneMoreDraw.{state_after-none, state_after-next, draw-next, joined-none, joined-next}
use Rattle.demo_gen.proofs.samples.put_sample_bytes.Goals as goal

pub loop-k-init : goal.loop-k-init
loop-k-init c = record { bytes = joined-none _ _; state = state_after-none c.args.state }

pub loop-k-preserved : goal.loop-k-preserved
loop-k-preserved c =
    let drawn = draw-next c.loop-k.k c.args.state c.loop-k.after c.next_state-after.result c.drawn_byte.result
    c.loop-k.invariant.state c.next_state-after.ensures c.drawn_byte.ensures in
    let byte = c.sample_byte.ensures ∙ ap (sample_byte (c.args.first + c.loop-k.k)) drawn in
    record {
      bytes = c.in_ok-push.ensures.items ∙ ap (λ (b : ℕ). c.loop-k.file.items ++ b ∷ []) byte
          ∙ joined-next _ _ c.loop-k.k (λ k. sample_byte (c.args.first + k) (draw c.args.state k) ∷ []) c.loop-k.invariant.bytes;
      state = rw (add-one c.loop-k.k)
          (state_after-next c.loop-k.k c.args.state c.loop-k.after c.next_state-after.result c.loop-k.invariant.state c.next_state-after.ensures);
    }
