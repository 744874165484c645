-- What the bus emits that lags, and hands over.
use Rattle.lock_step.specs.LockStepEmits.{drained_machine}
use Rattle.lock_step.specs.Emits.{Emits}
use Rattle.chip_form.specs.ChipMeaning.{ChipMeaning}
use Rattle.lag_bus.specs.Lagging.{Lagging, with_book, after_settle}
use Rattle.lag_bus.specs.Ready.{pending_frames, pending_records}

-- the bus without what it emitted and with no calls; its book stays
abbrev pub without_items : {S : Type 0} → Lagging S → Lagging S
without_items bus = with_book (drained_machine bus.machine) bus.book

-- The machine's items are emitted, those too that still wait for pending samples.
abbrev pub lag_emits : {S : Type 0} → ChipMeaning S → Emits (Lagging S)
lag_emits chip = record {
  frames = λ bus. bus.machine.frames;
  records = λ bus. bus.machine.records;
  cleared = without_items;
  pending = λ bus. bus.book.pending;
  total = λ bus. bus.book.total;
  at_rest = λ bus. without_items (after_settle chip bus);
}

-- the bus after a drain: what stands before the first pending sample is handed over
abbrev pub after_drain : {S : Type 0} → Lagging S → Lagging S
after_drain bus = with_book
    (record bus.machine {
      frames = pending_frames bus.book.pending bus.machine.frames;
      records = pending_records bus.chip_sample bus.machine.records;
      calls = 0;
    })
    bus.book
