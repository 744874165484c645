-- What a bus that lags shows of what it has, and what always holds of this.
use Rattle.std.specs.Prelude.{◌≡◌, ℕ, ◌+◌, ◌-◌, ◌*◌, ◌/◌, ◌<◌, ◌≤◌}
use Rattle.spc700_exec.specs.Bus.{max_calls}
use Rattle.ports_timers.specs.declared.io.Io.{Io}
use Rattle.lock_step.specs.declared.counts.Counts.{Counts}
use Rattle.trace_form.specs.Capacities.{event_capacity}
use Rattle.chip_form.specs.Limits.{max_samples_of_batch, max_samples_of_chip}
use Rattle.lag_bus.specs.Book.{AddsUp}
use Rattle.lag_bus.specs.Lagging.{Lagging}
use Rattle.lag_bus.specs.Deferred.{Deferred}
use Rattle.spc700_exec.specs.declared.bus.TheConstants.{CYCLES_PER_SAMPLE}

-- It has the chip with its deferred samples, the ports and timers, the clock, the counts, and the calls since the last drain.
abbrev pub lagging_of : {S : Type 0} → Deferred S → Io → (clock : ℕ) → Counts → (calls : ℕ) → Lagging S
lagging_of deferred io clock counts calls = record {
  machine = record {
    memory = deferred.memory;
    io = io;
    chip = deferred.chip;
    mask = deferred.mask;
    clock = clock;
    frames = deferred.frames;
    records = deferred.records;
    calls = calls;
  };
  book = record { pending = deferred.pending; events = deferred.events; reach = deferred.reach; counts = counts; total = deferred.total };
  chip_batches = deferred.batches;
  chip_sample = deferred.due - deferred.pending;
  chip_total = deferred.total;
}

pub record IsLagging {S : Type 0} (deferred : Deferred S) (counts : Counts) (clock calls : ℕ) : Type 0 where
  pub same_batches : deferred.batches ≡ counts.batches
  pub same_due : deferred.due ≡ clock / CYCLES_PER_SAMPLE
  pub pending : deferred.pending < max_samples_of_batch
  pub events : deferred.events ≤ event_capacity
  -- each call takes the capacity of at most a frame and eight records, beside what the pending samples and the events took before
  pub frames : deferred.frames_used ≤ max_samples_of_batch - 1 + calls
  pub records : deferred.records_used ≤ event_capacity + 8 * (max_samples_of_batch - 1) + 8 * calls
  pub adds_up : AddsUp counts
  pub time : clock < CYCLES_PER_SAMPLE * (max_samples_of_chip + 1)
  pub few : calls ≤ max_calls
