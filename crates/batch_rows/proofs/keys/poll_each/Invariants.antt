use Rattle.std.proofs.Common.{◌≡◌, ◌<◌, ◌≤◌, ℕ, suc, length, slice_index}
use Rattle.batch_rows.specs.KeysAndNoise.{with_keys_of}
use Rattle.batch_rows.specs.Rows.{keys_after}
use Rattle.batch_rows.proofs.keys.poll_each.Given as goal

abbrev pub invariant-loop-j : goal.invariant-loop-j
invariant-loop-j l = record {
  state : l.state ≡ with_keys_of l.initial.state (keys_after l.number l.initial.state l.j);
  kon_latched : (i : ℕ) → i < l.j → slice_index l.kon i ≡ (keys_after l.number l.initial.state (suc i)).hidden.kon_latched;
  others : (i : ℕ) → l.j ≤ i → i < 64 → slice_index l.kon i ≡ 0;
  long : length l.kon ≡ 64;
}
