use Rattle.std.proofs.Common.{◌≡◌, ◌<◌, ◌+◌, ◌*◌, ◌%◌, ℕ, slice_index}
use Rattle.num_fix.specs.SignedWords.{number_at}
use Rattle.voice_batch.specs.OutsOverRow.{short_mixed_at, sounding_at}
use Rattle.voice_batch.proofs.short_sounding.put_short_by_levels.Given as goal

abbrev pub invariant-loop-c : goal.invariant-loop-c
invariant-loop-c l = record {
  outs : (i : ℕ) → i < 8 * l.c → l.at + i < 64 → number_at l.outs (l.at + i) ≡ sounding_at (slice_index l.levels (l.at + i) % 0x800) (short_mixed_at l.taps i);
  before : (i : ℕ) → i < l.at → number_at l.outs i ≡ number_at l.initial.outs i;
}
