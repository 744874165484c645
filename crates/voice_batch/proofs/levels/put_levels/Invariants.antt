use Rattle.std.proofs.Common.{◌≡◌, ◌<◌, ◌≤◌, ◌+◌, ◌-◌, ℕ, slice_index}
use Rattle.rate_clock.specs.Counter.{counter_at}
use Rattle.voice_batch.specs.Levels.{envelope_from, level_in}
use Rattle.voice_batch.proofs.levels.put_levels.Given as goal

abbrev pub invariant-levels : goal.invariant-levels
invariant-levels l = record {
  few : l.j ≤ l.n;
  levels : (k : ℕ) → l.reads.clock ≡ counter_at k → (i : ℕ) → i < l.j → slice_index l.levels (l.at + i) ≡ level_in l.initial.envelope l.reads.regs (k + l.at) i;
  within : (i : ℕ) → i < l.j → slice_index l.levels (l.at + i) < 0x800;
  envelope : (k : ℕ) → l.reads.clock ≡ counter_at k → l.envelope ≡ envelope_from l.initial.envelope l.reads.regs (k + l.at) l.j;
}

abbrev pub decreases-levels : goal.decreases-levels
decreases-levels l = l.n - l.j
