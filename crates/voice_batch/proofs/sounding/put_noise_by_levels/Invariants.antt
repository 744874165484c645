use Rattle.std.proofs.Common.{◌≡◌, ◌<◌, ◌+◌, ◌*◌, ◌%◌, ℕ, pos, length, slice_index}
use Rattle.num_fix.specs.Arithmetic.{wrap16}
use Rattle.num_fix.specs.SignedWords.{number_at}
use Rattle.voice_batch.specs.OutsOverRow.{sounding_at}
use Rattle.voice_batch.proofs.sounding.put_noise_by_levels.Given as goal

abbrev pub invariant-loop-j : goal.invariant-loop-j
invariant-loop-j l = record {
  outs : (i : ℕ) → i < l.j → number_at l.outs (l.at + i) ≡ sounding_at (slice_index l.levels (l.at + i) % 0x800) (wrap16 (pos (2 * slice_index l.noise (l.at + i))));
  before : (i : ℕ) → i < l.at → number_at l.outs i ≡ number_at l.initial.outs i;
  long : length l.outs ≡ 64;
}
