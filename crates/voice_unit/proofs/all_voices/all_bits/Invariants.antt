use Rattle.std.proofs.Common.{◌<◌, ◌≤◌, ℕ, slice_index}
use Rattle.std.specs.Int.{bit_at}
use Rattle.voice_unit.proofs.all_voices.all_bits.Given as goal

abbrev pub invariant-loop-j : goal.invariant-loop-j
invariant-loop-j l = record {
  bits : (i v : ℕ) → i < l.j → bit_at (slice_index l.kon i) v ≤ bit_at l.all v;
  most : (i : ℕ) → i < l.j → slice_index l.kon i ≤ l.all;
}
