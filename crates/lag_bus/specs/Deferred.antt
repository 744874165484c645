-- A chip with its memory and its output, some samples of which are deferred, as it is once these are made.
use Rattle.std.specs.Prelude.{◌≡◌, ◌≤◌, ℕ, ◌+◌, ◌*◌, List, [], ◌∷◌, ◌++◌, false}
use Rattle.std.specs.List.{filter}
use Rattle.aram_core.specs.Memory.{byte_at, with_byte}
use Rattle.num_fix.specs.declared.Frame.{Frame}
use Rattle.trace_form.specs.declared.record.Record.{Record}
use Rattle.chip_form.specs.declared.pages.ReachPages.{ReachPages}
use Rattle.chip_form.specs.Samples.{samples, in_mask}
use Rattle.chip_form.specs.ChipMeaning.{ChipMeaning}
use Rattle.chip_form.specs.Limits.{max_samples_of_batch}
use Rattle.lag_bus.specs.Book.{may_be_read, may_be_written}

pub record Deferred (S : Type 0) : Type 0 where
  -- what there is once the pending samples are made: the chip's state, memory, and what was emitted and not handed over
  pub chip : S
  pub memory : List ℕ
  pub frames : List Frame
  pub records : List Record
  pub mask : ℕ
  -- the samples that are due, those pending, and the events that wait for them
  pub due : ℕ
  pub pending : ℕ
  pub events : ℕ
  -- the reach before the pending samples, and the batches and the samples that the chip made in all
  pub reach : ReachPages
  pub batches : ℕ
  pub total : ℕ
  -- the capacity that frames and records take at most, with those of the pending samples
  pub frames_used : ℕ
  pub records_used : ℕ

-- one sample more that is pending
abbrev pub deferred_with_sample : {S : Type 0} → ChipMeaning S → Deferred S → Deferred S
deferred_with_sample chip deferred =
    let made = chip.one_sample deferred.due deferred.chip deferred.memory in
    record deferred {
      chip = made.state;
      memory = made.memory;
      frames = deferred.frames ++ made.frame ∷ [];
      records = deferred.records ++ filter (in_mask deferred.mask) made.records;
      due = deferred.due + 1;
      pending = deferred.pending + 1;
      frames_used = deferred.frames_used + 1;
      records_used = deferred.records_used + 8;
    }

-- and so many of them
abbrev pub deferred_with_samples : {S : Type 0} → ChipMeaning S → Deferred S → (fallen : ℕ) → Deferred S
deferred_with_samples chip deferred fallen =
    let made = samples chip.one_sample fallen deferred.due deferred.chip deferred.memory in
    record deferred {
      chip = made.state;
      memory = made.memory;
      frames = deferred.frames ++ made.frames;
      records = deferred.records ++ filter (in_mask deferred.mask) made.records;
      due = deferred.due + fallen;
      pending = deferred.pending + fallen;
      frames_used = deferred.frames_used + fallen;
      records_used = deferred.records_used + 8 * fallen;
    }

-- Samples to come write where the reach before the pending ones says: from a state and memory after these, as many as make no
-- more than one batch with them.
abbrev pub AreWritesWithin : {S : Type 0} → ChipMeaning S → ReachPages → (pending due : ℕ) → S → (memory : List ℕ) → Type 0
AreWritesWithin chip reach pending due state memory =
    (fallen at : ℕ) → pending + fallen ≤ max_samples_of_batch → may_be_written reach at ≡ false
    → byte_at (samples chip.one_sample fallen due state memory).memory at ≡ byte_at memory at

-- Samples to come read where the reach before the pending ones says: a byte put elsewhere is put into what they leave, and else changes nothing.
abbrev pub AreReadsWithin : {S : Type 0} → ChipMeaning S → ReachPages → (pending due : ℕ) → S → (memory : List ℕ) → Type 0
AreReadsWithin chip reach pending due state memory =
    (fallen at value : ℕ) → pending + fallen ≤ max_samples_of_batch → may_be_read reach at ≡ false
    → samples chip.one_sample fallen due state (with_byte memory at value)
    ≡ record (samples chip.one_sample fallen due state memory) { memory = with_byte (samples chip.one_sample fallen due state memory).memory at value }
