-- A bus at a later moment of the clock, at which some samples more are pending, and a pass from there.
use Rattle.std.proofs.Common.{◌≡◌, ℕ, ◌+◌, ◌-◌, ◌/◌, ◌<◌, ◌≤◌, ◌++◌, [], ◌∷◌, Bool, true, false, ◌==◌, refl, sym, ◌∙◌, arith, append_assoc}
use Rattle.std.specs.List.{filter}
use Rattle.std.proofs.lemmas.List.{append-nil}
use Rattle.std.proofs.lemmas.List.Elements.{filter-append}
use Rattle.std.proofs.lemmas.Bool.Decides.{nat_tests}
use Rattle.ports_timers.specs.declared.io.Io.{Io}
use Rattle.ports_timers.specs.Io.{after_ticks_of}
use Rattle.chip_form.specs.Samples.{samples, in_mask}
use Rattle.chip_form.proofs.OneMoreSample.{samples_none, samples_more}
use Rattle.chip_form.specs.ChipMeaning.{ChipMeaning}
use Rattle.lock_step.specs.LockStep.{crosses_sample, samples_due}
use Rattle.lag_bus.specs.Lagging.{Lagging, lagging, with_book, HasNumbersOfBook}
use Rattle.lag_bus.specs.IdleCycles.{with_fallen}
use Rattle.spc700_exec.specs.declared.bus.TheConstants.{CYCLES_PER_SAMPLE}

-- with the numbers of its book it is the bus with that book
pub with_book-own : {S : Type 0} (bus : Lagging S) → HasNumbersOfBook bus → bus ≡ with_book bus.machine bus.book
with_book-own bus numbers = λ i. record bus { chip_batches = numbers.batches i; chip_sample = numbers.sample i; chip_total = numbers.total i }

module _ {S : Type 0} (chip : ChipMeaning S) (bus : Lagging S) where
  pub with_fallen-none : with_fallen chip bus 0 bus.machine.clock bus.machine.io bus.machine.calls ≡ with_book bus.machine bus.book
  with_fallen-none =
      let none : bus.book.pending + 0 ≡ bus.book.pending = omega arith in
      simp (samples_none, append-nil, none) refl

  -- with one sample more, of number k
  abbrev with_fallen_and_sample : (fallen k clock : ℕ) → Io → (calls pending : ℕ) → Lagging S
  with_fallen_and_sample fallen k clock io calls pending =
      let m = bus.machine in
      let before = samples chip.one_sample fallen (samples_due m) m.chip m.memory in
      let made = chip.one_sample k before.state before.memory in
      with_book
      (record m {
        memory = made.memory;
        io = io;
        chip = made.state;
        clock = clock;
        frames = m.frames ++ before.frames ++ made.frame ∷ [];
        records = m.records ++ filter (in_mask m.mask) before.records ++ filter (in_mask m.mask) made.records;
        calls = calls;
      })
      (record bus.book { pending = pending })

  with_fallen-more : (fallen clock : ℕ) (io : Io) (calls : ℕ)
      → with_fallen chip bus (fallen + 1) clock io calls ≡ with_fallen_and_sample fallen (samples_due bus.machine + fallen) clock io calls (bus.book.pending + (fallen + 1))
  with_fallen-more fallen clock io calls = simp (samples_more, filter-append, append_assoc) refl

  pass-by : (b : Bool) (fallen clock : ℕ) (io : Io) (calls cycles : ℕ) → crosses_sample clock cycles ≡ b → cycles ≤ CYCLES_PER_SAMPLE
      → bus.machine.clock ≤ clock → fallen ≡ clock / CYCLES_PER_SAMPLE - bus.machine.clock / CYCLES_PER_SAMPLE → bus.book.pending + ((clock + cycles) / CYCLES_PER_SAMPLE - bus.machine.clock / CYCLES_PER_SAMPLE) < 64
      → (lagging chip).pass (with_fallen chip bus fallen clock io calls) cycles
      ≡ with_fallen chip bus ((clock + cycles) / CYCLES_PER_SAMPLE - bus.machine.clock / CYCLES_PER_SAMPLE) (clock + cycles) (after_ticks_of io clock cycles) (calls + 1)
  pass-by false fallen clock io calls cycles is few later are_fallen free =
      let same : fallen ≡ (clock + cycles) / CYCLES_PER_SAMPLE - bus.machine.clock / CYCLES_PER_SAMPLE = grind (arith, nat_tests) in
      rw is (λ i. with_fallen chip bus (same i) (clock + cycles) (after_ticks_of io clock cycles) (calls + 1))
  pass-by true fallen clock io calls cycles is few later are_fallen free =
      let more : (clock + cycles) / CYCLES_PER_SAMPLE - bus.machine.clock / CYCLES_PER_SAMPLE ≡ fallen + 1 = grind (arith, nat_tests) in
      let number : clock / CYCLES_PER_SAMPLE ≡ bus.machine.clock / CYCLES_PER_SAMPLE + fallen = omega arith in
      let pending : bus.book.pending + fallen + 1 ≡ bus.book.pending + (fallen + 1) = omega arith in
      let below : (bus.book.pending + fallen + 1 == 64) ≡ false = grind (arith, nat_tests) in
      let ticked = after_ticks_of io clock cycles in
      rw (is, below)
      (λ i. with_fallen_and_sample fallen (number i) (clock + cycles) ticked (calls + 1) (pending i))
      ∙ sym (with_fallen-more fallen (clock + cycles) ticked (calls + 1))
      ∙ (λ i. with_fallen chip bus (sym more i) (clock + cycles) ticked (calls + 1))

  -- a pass to a moment at which fewer samples are pending than one batch has
  pub pass-with_fallen : (fallen clock : ℕ) (io : Io) (calls cycles : ℕ) → cycles ≤ CYCLES_PER_SAMPLE
      → bus.machine.clock ≤ clock → fallen ≡ clock / CYCLES_PER_SAMPLE - bus.machine.clock / CYCLES_PER_SAMPLE → bus.book.pending + ((clock + cycles) / CYCLES_PER_SAMPLE - bus.machine.clock / CYCLES_PER_SAMPLE) < 64
      → (lagging chip).pass (with_fallen chip bus fallen clock io calls) cycles
      ≡ with_fallen chip bus ((clock + cycles) / CYCLES_PER_SAMPLE - bus.machine.clock / CYCLES_PER_SAMPLE) (clock + cycles) (after_ticks_of io clock cycles) (calls + 1)
  pass-with_fallen fallen clock io calls cycles few later are_fallen free = pass-by (crosses_sample clock cycles) fallen clock io calls cycles refl few later are_fallen free
