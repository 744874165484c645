use Rattle.std.proofs.Common.{◌≡◌, ◌<◌, ◌≤◌, ◌+◌, ◌*◌, ℕ, length}
use Rattle.voice_batch.specs.OutsOverRow.{mixed_at}
use Rattle.voice_unit.specs.Voice.{interpolation}
use Rattle.voice_batch.proofs.sounding.take_taps.Given as goal

abbrev pub invariant-loop-j : goal.invariant-loop-j
invariant-loop-j l = record {
  taps : (i : ℕ) → i < l.j → mixed_at l.taps i ≡ interpolation l.table l.row (l.position + i * l.pitch);
  phase : l.phase ≡ 0x10 * (l.position + l.j * l.pitch);
  bound : l.phase ≤ 0x10 * (0x7fff + l.j * 0x3fff);
  long : length l.taps ≡ 64;
}
