use Rattle.std.proofs.Common.{◌≡◌, ◌+◌, [], ◌∷◌, ◌++◌}
use Rattle.demo_gen.specs.Draws.{state_after, draw, joined}
use Rattle.demo_gen.specs.Samples.{sample_byte}
use Rattle.demo_gen.proofs.samples.put_sample_bytes.Given as goal

abbrev pub invariant-loop-k : goal.invariant-loop-k
invariant-loop-k l = record {
  bytes : l.file.items ≡ l.initial.file.items ++ joined l.k (λ k. sample_byte (l.first + k) (draw l.state k) ∷ []);
  state : l.after ≡ state_after l.k l.state;
}
