use Rattle.std.proofs.Common.{◌≡◌, ◌<◌, ◌≤◌, ◌+◌, ℕ, nat_le, length}
use Rattle.num_fix.specs.SignedWords.{number_at}
use Rattle.voice_batch.specs.OutsOverRow.{AreFactorsOfLevel, short_mixed_at, sounding_at}
use Rattle.voice_batch.proofs.short_sounding.eight_at_level.Given as goal

abbrev pub invariant-loop-k : goal.invariant-loop-k
invariant-loop-k l = record {
  eight : (level : ℕ) → level ≤ 0x7ff → AreFactorsOfLevel level l.factors → l.wrapped ≡ nat_le 0x400 level → (i : ℕ) → i < l.k → number_at l.eight i ≡ sounding_at level (short_mixed_at l.taps (l.from + i));
  long : length l.eight ≡ 8;
}
