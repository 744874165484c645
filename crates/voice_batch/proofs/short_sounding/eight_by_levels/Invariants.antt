use Rattle.std.proofs.Common.{◌≡◌, ◌<◌, ◌+◌, ◌%◌, ℕ, length, slice_index}
use Rattle.num_fix.specs.SignedWords.{number_at}
use Rattle.voice_batch.specs.OutsOverRow.{short_mixed_at, sounding_at}
use Rattle.voice_batch.proofs.short_sounding.eight_by_levels.Given as goal

abbrev pub invariant-loop-k : goal.invariant-loop-k
invariant-loop-k l = record {
  eight : (i : ℕ) → i < l.k → number_at l.eight i ≡ sounding_at (slice_index l.levels (l.at + i) % 0x800) (short_mixed_at l.taps (l.from + i));
  long : length l.eight ≡ 8;
}
