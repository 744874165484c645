use Rattle.std.proofs.Common.{◌≡◌, ◌∙◌, ◌+◌, ◌*◌, ℕ, suc, [], ◌∷◌, ◌++◌, ap, arith}
use Rattle.demo_gen.specs.Draws.{draw}
use Rattle.demo_gen.specs.Writes.{value}
use Rattle.demo_gen.proofs.OneMoreDraw.{state_after-none, state_after-next, draw-next, joined-none, joined-next}
use Rattle.demo_gen.proofs.writes.put_values.Goals as goal

pub loop-turn-init : goal.loop-turn-init
loop-turn-init c = record { bytes = joined-none _ _; state = state_after-none c.args.state }

pub loop-turn-preserved : goal.loop-turn-preserved
loop-turn-preserved c =
    let once = state_after-next (2 * c.loop-turn.turn) c.args.state c.loop-turn.after c.next_state.result c.loop-turn.invariant.state c.next_state.ensures in
    let drawn = draw-next (suc (2 * c.loop-turn.turn)) c.args.state c.next_state.result c.next_state-after.result c.drawn_byte.result
    once c.next_state-after.ensures c.drawn_byte.ensures in
    let chosen = c.value.ensures ∙ ap (value c.loop-turn.turn) drawn in
    let twice : 2 * (c.loop-turn.turn + 1) ≡ suc (suc (2 * c.loop-turn.turn)) = omega arith in
    record {
      bytes = c.in_ok-push.ensures.items ∙ ap (λ (b : ℕ). c.loop-turn.file.items ++ b ∷ []) chosen
          ∙ joined-next _ _ c.loop-turn.turn (λ turn. value turn (draw c.args.state (suc (2 * turn))) ∷ []) c.loop-turn.invariant.bytes;
      state = rw twice
          (state_after-next (suc (2 * c.loop-turn.turn)) c.args.state c.next_state.result c.next_state-after.result once c.next_state-after.ensures);
    }
