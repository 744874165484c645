use Rattle.std.proofs.Common.{◌≡◌, ◌<◌, ◌+◌, ◌-◌, ◌*◌, ℕ, length, slice_index}
use Rattle.voice_batch.proofs.levels.put_falling.Given as goal

abbrev pub invariant-loop-j : goal.invariant-loop-j
invariant-loop-j l = record {
  falling : (i : ℕ) → i < l.j → slice_index l.levels (l.at + i) ≡ l.level - 8 * i;
  fall : l.fall ≡ 8 * l.j;
  long : length l.levels ≡ 64;
}
