-- The machine with its flush statistics passes cycles in which it is only read.
use Rattle.std.proofs.Common.{◌≡◌, ℕ, ◌+◌, ◌-◌, ◌/◌, ◌<◌, ◌≤◌, Bool, true, false, refl, sym, ap, ◌∙◌, arith}
use Rattle.ports_timers.specs.Io.{after_ticks_of}
use Rattle.chip_form.specs.ChipMeaning.{ChipMeaning}
use Rattle.lock_step.specs.LockStep.{crosses_sample}
use Rattle.lag_bus.specs.Lagging.{Lagging, lagging}
use Rattle.lag_bus.specs.IdleCycles.{samples_in, with_fallen, after_wait, without_calls, IsKept}
use Rattle.lag_bus.proofs.FallenDue.{with_book-own, with_fallen-none, pass-with_fallen}
use Rattle.ports_timers.proofs.Ticks.{after_ticks_of-then, after_ticks_of-none}
use Rattle.spc700_exec.specs.declared.bus.TheConstants.{CYCLES_PER_SAMPLE}

module _ {S : Type 0} (chip : ChipMeaning S) where
  -- a pass depends on the number of calls in nothing but that number
  pass-without_calls : (s : Lagging S) (cycles : ℕ) (b : Bool) → crosses_sample s.machine.clock cycles ≡ b
      → without_calls ((lagging chip).pass s cycles) ≡ without_calls ((lagging chip).pass (without_calls s) cycles)
  pass-without_calls s cycles true is = rw is refl
  pass-without_calls s cycles false is = rw is refl

  pass-after_wait : (bus : Lagging S) (n cycles : ℕ) → cycles ≤ CYCLES_PER_SAMPLE → bus.book.pending + samples_in bus.machine.clock (n + cycles) < 64
      → without_calls ((lagging chip).pass (after_wait chip bus n) cycles) ≡ without_calls (after_wait chip bus (n + cycles))
  pass-after_wait bus n cycles few free =
      let m = bus.machine in
      let clock : m.clock + n + cycles ≡ m.clock + (n + cycles) = omega arith in
      let there : bus.book.pending + ((m.clock + n + cycles) / CYCLES_PER_SAMPLE - m.clock / CYCLES_PER_SAMPLE) < 64 = omega arith in
      ap (λ (x : Lagging S). without_calls x)
      (pass-with_fallen chip bus (samples_in m.clock n) (m.clock + n) (after_ticks_of m.io m.clock n) m.calls cycles few (omega arith) refl there)
      ∙ (λ i. without_calls (with_fallen chip bus (clock i / CYCLES_PER_SAMPLE - m.clock / CYCLES_PER_SAMPLE) (clock i) (sym (after_ticks_of-then m.io m.clock n cycles) i) m.calls))

  pub pass-wait : (bus s : Lagging S) (n cycles : ℕ) → without_calls s ≡ without_calls (after_wait chip bus n) → cycles ≤ CYCLES_PER_SAMPLE
      → bus.book.pending + samples_in bus.machine.clock (n + cycles) < 64
      → without_calls ((lagging chip).pass s cycles) ≡ without_calls (after_wait chip bus (n + cycles))
  pass-wait bus s n cycles same few free =
      pass-without_calls s cycles (crosses_sample s.machine.clock cycles) refl
      ∙ ap (λ (x : Lagging S). without_calls ((lagging chip).pass x cycles)) same
      ∙ sym (pass-without_calls (after_wait chip bus n) cycles (crosses_sample (bus.machine.clock + n) cycles) refl)
      ∙ pass-after_wait bus n cycles few free

  pub wait-none : (bus : Lagging S) → IsKept chip bus → without_calls bus ≡ without_calls (after_wait chip bus 0)
  wait-none bus kept =
      let m = bus.machine in
      let none : 0 ≡ samples_in m.clock 0 = omega arith in
      let clock : m.clock ≡ m.clock + 0 = omega arith in
      ap (λ (x : Lagging S). without_calls x) (with_book-own bus kept.numbers ∙ sym (with_fallen-none chip bus))
      ∙ (λ i. without_calls (with_fallen chip bus (none i) (clock i) (sym (after_ticks_of-none m.io m.clock) i) m.calls))
