use Rattle.std.proofs.Common.{◌≡◌, ◌<◌, ◌≤◌, ◌+◌, ◌*◌, ℕ, nat_le}
use Rattle.num_fix.specs.SignedWords.{number_at}
use Rattle.voice_batch.specs.OutsOverRow.{AreFactorsOfLevel, short_mixed_at, sounding_at}
use Rattle.voice_batch.proofs.short_sounding.put_short.Given as goal

abbrev pub invariant-loop-c : goal.invariant-loop-c
invariant-loop-c l = record {
  outs : (level : ℕ) → level ≤ 0x7ff → AreFactorsOfLevel level l.factors → l.wrapped ≡ nat_le 0x400 level → (i : ℕ) → i < 8 * l.c → l.at + i < 64
      → number_at l.outs (l.at + i) ≡ sounding_at level (short_mixed_at l.taps i);
  before : (i : ℕ) → i < l.at → number_at l.outs i ≡ number_at l.initial.outs i;
}
