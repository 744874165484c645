use Rattle.std.proofs.Common.{◌≡◌, ◌<◌, ◌+◌, ℕ, pos, length}
use Rattle.num_fix.specs.SignedWords.{number_at}
use Rattle.voice_batch.proofs.sounding.put_silence.Given as goal

abbrev pub invariant-loop-j : goal.invariant-loop-j
invariant-loop-j l = record {
  outs : (i : ℕ) → i < l.j → number_at l.outs (l.at + i) ≡ pos 0;
  before : (i : ℕ) → i < l.at → number_at l.outs i ≡ number_at l.initial.outs i;
  long : length l.outs ≡ 64;
}
