use Rattle.std.proofs.Common.{◌≡◌, suc, ◌*◌, [], ◌∷◌, ◌++◌}
use Rattle.demo_gen.specs.Draws.{state_after, draw, joined}
use Rattle.demo_gen.specs.Writes.{value}
use Rattle.demo_gen.proofs.writes.put_values.Given as goal

abbrev pub invariant-loop-turn : goal.invariant-loop-turn
invariant-loop-turn l = record {
  bytes : l.file.items ≡ l.initial.file.items ++ joined l.turn (λ turn. value turn (draw l.state (suc (2 * turn))) ∷ []);
  state : l.after ≡ state_after (2 * l.turn) l.state;
}
