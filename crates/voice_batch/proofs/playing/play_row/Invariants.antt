use Rattle.std.proofs.Common.{◌≡◌, ℕ, true, ◌+◌, ◌-◌, ◌≤◌, ◌<◌, ◌^◌, length, slice_index}
use Rattle.num_fix.specs.SignedWords.{number_at}
use Rattle.rate_clock.specs.Counter.{counter_at}
use Rattle.voice_batch.specs.Play.{IsPlayed}
use Rattle.voice_unit.specs.Batch.{lane_of}
use Rattle.voice_unit.specs.Voice.{is_modulated, modulated_pitch}
use Rattle.voice_batch.proofs.playing.play_row.Given as goal

abbrev pub invariant-samples : goal.invariant-samples
invariant-samples l = record {
  played : (k : ℕ) → l.reads.clock ≡ counter_at k
      → IsPlayed (lane_of l.reads l.previous l.initial.voice k) l.reads.seen.voice l.j l.initial.made.ends l.made.ends l.made.outs l.voice;
  within : l.j ≤ l.last;
  later : (j : ℕ) → l.j ≤ j → slice_index l.made.ends j ≡ slice_index l.initial.made.ends j;
  lower : (j : ℕ) → j < 64 → slice_index l.made.ends j < 2 ^ (l.reads.seen.voice + 1);
  modulated : is_modulated l.reads.seen.pmon l.reads.seen.voice ≡ true
      → (j : ℕ) → j < 64 → slice_index l.work.pitches j ≡ modulated_pitch l.reads.regs.pitch (number_at l.previous j);
  outs_long : length l.made.outs ≡ 64;
  ends_long : length l.made.ends ≡ 64;
}

abbrev pub decreases-samples : goal.decreases-samples
decreases-samples l = l.last - l.j
