use Rattle.std.proofs.Common.{◌≡◌, ◌<◌, ℕ, slice_index, length}
use Rattle.num_fix.specs.SignedWords.{number_at}
use Rattle.voice_unit.specs.Voice.{modulated_pitch}
use Rattle.voice_batch.proofs.span_phases.put_modulated_pitches.Given as goal

abbrev pub invariant-loop-j : goal.invariant-loop-j
invariant-loop-j l = record {
  pitches : (i : ℕ) → i < l.j → slice_index l.pitches i ≡ modulated_pitch l.pitch (number_at l.previous i);
  long : length l.pitches ≡ 64;
}
