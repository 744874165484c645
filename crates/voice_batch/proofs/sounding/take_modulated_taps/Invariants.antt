use Rattle.std.proofs.Common.{◌≡◌, ◌<◌, ℕ, slice_index, length}
use Rattle.voice_batch.specs.OutsOverRow.{mixed_at}
use Rattle.voice_unit.specs.Voice.{interpolation}
use Rattle.voice_batch.proofs.sounding.take_modulated_taps.Given as goal

abbrev pub invariant-loop-j : goal.invariant-loop-j
invariant-loop-j l = record {
  taps : (i : ℕ) → i < l.j → mixed_at l.taps i ≡ interpolation l.table l.row (slice_index l.phases i);
  long : length l.taps ≡ 64;
}
