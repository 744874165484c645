use Rattle.std.proofs.Common.{◌≡◌, ◌<◌, ◌≤◌, ℕ, false, slice_index}
use Rattle.num_fix.specs.Arithmetic.{has_bit}
use Rattle.voice_batch.proofs.plain.after_latched.Given as goal

abbrev pub invariant-loop-j : goal.invariant-loop-j
invariant-loop-j l = record {
  quiet : (i : ℕ) → l.from ≤ i → i < l.j → has_bit (slice_index l.kon i) l.voice ≡ false;
  within : l.from ≤ l.j;
}
