use Rattle.std.proofs.Common.{◌≡◌, ◌<◌, ◌≤◌, ◌+◌, ◌*◌, ℕ, List, ℤ}
use Rattle.gauss_table.specs.Factors.{AreFactors}
use Rattle.voice_batch.specs.OutsOverRow.{short_mixed_at}
use Rattle.voice_unit.specs.Voice.{interpolation}
use Rattle.voice_batch.proofs.short_sounding.take_short_taps.Given as goal

abbrev pub invariant-loop-c : goal.invariant-loop-c
invariant-loop-c l = record {
  taps : (table : List ℤ) → AreFactors table l.factors → (i : ℕ) → i < 4 * l.c → short_mixed_at l.taps i ≡ interpolation table l.row (l.position + i * l.pitch);
  phase : l.phase ≡ 0x10 * (l.position + 4 * l.c * l.pitch);
  bound : l.phase ≤ 0x10 * (0x7fff + 4 * l.c * 0x3fff);
}
