-- Flush statistics: what of the machine in lock step is still to be done by the chip, when the chip does it, and how often (own).
use Rattle.std.specs.Prelude.{◌≡◌, ℕ, ◌+◌, ◌-◌, ◌%◌, ◌^◌, ◌<◌, Bool, ◌&&◌, ◌||◌, nat_lt, ◌==◌, if◌then◌else◌, Option, Some, None}
use Rattle.std.specs.FinSet as set
use Rattle.aram_core.specs.Pages.{page_of}
use Rattle.chip_form.specs.declared.pages.ReachPages.{ReachPages}
use Rattle.chip_form.specs.Samples.{count_after}
use Rattle.lock_step.specs.declared.counts.Counts.{Counts}
use Rattle.lag_bus.specs.declared.cause.Cause.{Cause}
use Rattle.lag_bus.specs.declared.cause.Cause.TheVariants.{Register, Memory, Echo, Full, Events, End}
use Rattle.chip_form.specs.ChipMeaning.{ChipMeaning}
use Rattle.lock_step.specs.Machine.{Machine}
use Rattle.lock_step.specs.LockStep.{writes_register, writes_port}
use Rattle.trace_form.specs.Capacities.{event_capacity}
use Rattle.chip_form.specs.Limits.{max_samples_of_batch}

pub record Book : Type 0 where
  -- the samples that the chip hasn't made yet
  pub pending : ℕ
  -- the writes of ports that wait for them
  pub events : ℕ
  -- the pages that they, and those after them, can read and write
  pub reach : ReachPages
  -- the batches so far, by their causes
  pub counts : Counts
  -- the samples that the chip made in all, those before a load too
  pub total : ℕ

-- A write to an address has pending samples made first: they may read it, or the reach is entangled, and then every address
-- counts.
abbrev pub may_be_read : ReachPages → (at : ℕ) → Bool
may_be_read reach at = reach.entangled || set.contains reach.read_pages (page_of at)

-- the samples to come may write the byte at an address
abbrev pub may_be_written : ReachPages → (at : ℕ) → Bool
may_be_written reach at = set.contains reach.write_pages (page_of at)

-- the cause for which a read has pending samples made first: a register that they write, or memory that they may write
abbrev pub cause_of_read : {S : Type 0} → ChipMeaning S → ReachPages → (dsp_address at : ℕ) → Option Cause
cause_of_read chip reach dsp_address at =
    if at == 0xF3 && chip.is_result (dsp_address % 0x80) then Some Register
    else if may_be_written reach at then Some Echo
    else None

-- the cause for which a write has them made first: a register, memory that they may read, or as many events that wait as there is room for
abbrev pub cause_of_write : ReachPages → (dsp_address at pending events : ℕ) → Option Cause
cause_of_write reach dsp_address at pending events =
    if writes_register dsp_address at then Some Register
    else if may_be_read reach at then Some Memory
    else if writes_port at && nat_lt 0 pending && events == event_capacity then Some Events
    else None

-- nothing has been counted
abbrev pub no_counts : Counts
no_counts = record { batches = 0; register = 0; memory = 0; echo = 0; full = 0; events = 0; «end» = 0 }

-- the counts with one more batch, for a cause
abbrev pub counts_with_batch : Cause → Counts → Counts
counts_with_batch Register counts = record counts { batches = count_after counts.batches 1; register = count_after counts.register 1 }
counts_with_batch Memory counts = record counts { batches = count_after counts.batches 1; memory = count_after counts.memory 1 }
counts_with_batch Echo counts = record counts { batches = count_after counts.batches 1; echo = count_after counts.echo 1 }
counts_with_batch Full counts = record counts { batches = count_after counts.batches 1; full = count_after counts.full 1 }
counts_with_batch Events counts = record counts { batches = count_after counts.batches 1; events = count_after counts.events 1 }
counts_with_batch End counts = record counts { batches = count_after counts.batches 1; «end» = count_after counts.«end» 1 }

-- as long as no count is at the end of 64 bits, the batches are those of the six causes together
abbrev pub AddsUp : Counts → Type 0
AddsUp counts =
    counts.batches < 2 ^ 64 - 1
    → counts.batches ≡ counts.register + counts.memory + counts.echo + counts.full + counts.events + counts.«end»

-- the book once the pending samples are made for a cause: where there are any, they are one batch
abbrev pub settled_book : Cause → Book → Book
settled_book cause book = record book {
  pending = 0;
  events = if book.pending == 0 then book.events else 0;
  counts = if book.pending == 0 then book.counts else counts_with_batch cause book.counts;
  total = if book.pending == 0 then book.total else count_after book.total book.pending;
}

-- the book with the reach of a machine
abbrev pub with_reach_of : {S : Type 0} → ChipMeaning S → Machine S → Book → Book
with_reach_of chip machine book = record book { reach = chip.reach machine.chip machine.memory }

-- The book after an access with a cause, or with none, that leaves this machine. With a cause the reach is taken anew.
abbrev pub after_cause : {S : Type 0} → ChipMeaning S → Option Cause → Machine S → Book → Book
after_cause chip None machine book = book
after_cause chip (Some cause) machine book = with_reach_of chip machine (settled_book cause book)

-- The book after a write without a cause. One of a port is an event that waits, where samples are pending.
abbrev pub with_event : Option Cause → (at : ℕ) → Book → Book
with_event None at book = if writes_port at && nat_lt 0 book.pending then record book { events = book.events + 1 } else book
with_event (Some cause) at book = book

-- the book after a pass that makes a sample and leaves this machine: once as many are pending as one batch has at most, the chip makes them
abbrev pub with_sample : {S : Type 0} → ChipMeaning S → Machine S → Book → Book
with_sample chip machine book =
    let more = record book { pending = book.pending + 1 } in
    if more.pending == max_samples_of_batch then with_reach_of chip machine (settled_book Full more) else more

-- the book after a load that leaves this machine: nothing is pending, the reach is taken anew, and what was counted stays
abbrev pub book_after_load : {S : Type 0} → ChipMeaning S → Machine S → Book → Book
book_after_load chip machine book = with_reach_of chip machine (record book { pending = 0; events = 0 })

-- the book at the opening of a machine whose chip made so many samples in all
abbrev pub opened_lag_book : {S : Type 0} → ChipMeaning S → Machine S → (total : ℕ) → Book
opened_lag_book chip machine total = record {
  pending = 0;
  events = 0;
  reach = chip.reach machine.chip machine.memory;
  counts = no_counts;
  total = total;
}
