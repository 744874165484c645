use Rattle.std.proofs.Common.{◌≡◌, ◌*◌, [], ◌∷◌, ◌++◌}
use Rattle.demo_gen.specs.Draws.{state_after, draw, joined}
use Rattle.demo_gen.specs.Writes.{register}
use Rattle.demo_gen.proofs.writes.put_registers.Given as goal

abbrev pub invariant-loop-turn : goal.invariant-loop-turn
invariant-loop-turn l = record {
  bytes : l.file.items ≡ l.initial.file.items ++ joined l.turn (λ turn. register turn (draw l.state (2 * turn)) ∷ []);
  state : l.after ≡ state_after (2 * l.turn) l.state;
}
