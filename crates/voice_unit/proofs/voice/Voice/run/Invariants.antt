use Rattle.std.proofs.Common.{◌≡◌, ◌+◌, ℕ, length}
use Rattle.rate_clock.specs.Counter.{counter_at}
use Rattle.voice_unit.specs.Batch.{lane_of}
use Rattle.voice_unit.specs.RunOfVoice.{outs_of, IsRun}
use Rattle.voice_unit.proofs.voice.Voice.run.Given as goal

abbrev pub invariant-loop-j : goal.invariant-loop-j
invariant-loop-j l = record {
  clock : (k : ℕ) → l.reads.clock ≡ counter_at k → l.clock ≡ counter_at (k + l.j);
  run : (k : ℕ) → l.reads.clock ≡ counter_at k
      → IsRun (lane_of l.reads (outs_of l.previous) l.initial.self k) l.j l.initial.out l.out l.self;
  long : length l.out.items ≡ 64;
}
