use Rattle.std.proofs.Common.{◌≡◌, ◌<◌, ◌+◌, ℕ, length}
use Rattle.num_fix.specs.SignedWords.{number_at}
use Rattle.voice_batch.proofs.short_sounding.put_eight.Given as goal

abbrev pub invariant-loop-k : goal.invariant-loop-k
invariant-loop-k l = record {
  outs : (i : ℕ) → i < l.k → number_at l.outs (l.at + i) ≡ number_at l.eight i;
  before : (i : ℕ) → i < l.at → number_at l.outs i ≡ number_at l.initial.outs i;
  long : length l.outs ≡ 64;
}
