use Rattle.std.proofs.Common.{◌≡◌, ◌∙◌, ◌+◌, ◌*◌, ℕ, suc, [], ◌∷◌, ◌++◌, ap, arith}
use Rattle.demo_gen.specs.Draws.{draw}
use Rattle.demo_gen.specs.Writes.{register}
use Rattle.demo_gen.proofs.OneMoreDraw.{state_after-none, state_after-next, draw-next, joined-none, joined-next}
use Rattle.demo_gen.proofs.writes.put_registers.Goals as goal

pub loop-turn-init : goal.loop-turn-init
loop-turn-init c = record { bytes = joined-none _ _; state = state_after-none c.args.state }

pub loop-turn-preserved : goal.loop-turn-preserved
loop-turn-preserved c =
    let drawn = draw-next (2 * c.loop-turn.turn) c.args.state c.loop-turn.after c.next_state-first.result c.drawn_byte.result
    c.loop-turn.invariant.state c.next_state-first.ensures c.drawn_byte.ensures in
    let chosen = c.register.ensures ∙ ap (register c.loop-turn.turn) drawn in
    let once = state_after-next (2 * c.loop-turn.turn) c.args.state c.loop-turn.after c.next_state-first.result c.loop-turn.invariant.state c.next_state-first.ensures in
    let twice : 2 * (c.loop-turn.turn + 1) ≡ suc (suc (2 * c.loop-turn.turn)) = omega arith in
    record {
      bytes = c.in_ok-push.ensures.items ∙ ap (λ (b : ℕ). c.loop-turn.file.items ++ b ∷ []) chosen
          ∙ joined-next _ _ c.loop-turn.turn (λ turn. register turn (draw c.args.state (2 * turn)) ∷ []) c.loop-turn.invariant.bytes;
      state = rw twice
          (state_after-next (suc (2 * c.loop-turn.turn)) c.args.state c.next_state-first.result c.next_state-after.result once c.next_state-after.ensures);
    }
