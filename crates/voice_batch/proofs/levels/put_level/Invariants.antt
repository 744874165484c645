use Rattle.std.proofs.Common.{◌≡◌, ◌<◌, ◌+◌, ℕ, length, slice_index}
use Rattle.voice_batch.proofs.levels.put_level.Given as goal

abbrev pub invariant-loop-j : goal.invariant-loop-j
invariant-loop-j l = record {
  here : (i : ℕ) → i < l.j → slice_index l.levels (l.at + i) ≡ l.level;
  before : (i : ℕ) → i < l.at → slice_index l.levels i ≡ slice_index l.initial.levels i;
  long : length l.levels ≡ 64;
}
