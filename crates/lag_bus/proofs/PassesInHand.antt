-- A bus that is behind, and what is done to the one that runs on it.
use Rattle.std.proofs.Common.{◌≡◌, ℕ, ◌+◌, ◌-◌, ◌<◌, ◌≤◌, ◌==◌, false, None, refl, sym, ◌∙◌, arith}
use Rattle.std.proofs.lemmas.Bool.Decides.{nat_tests}
use Rattle.ports_timers.specs.declared.io.Io.{Io}
use Rattle.ports_timers.specs.Io.{is_within, read_answer, after_read, after_write, after_ticks_of}
use Rattle.chip_form.specs.ChipMeaning.{ChipMeaning}
use Rattle.lag_bus.specs.Held.{IsMemoryAlone}
use Rattle.lag_bus.specs.Lagging.{Lagging, lagging, with_book, MatchesBook}
use Rattle.lag_bus.specs.IdleCycles.{with_fallen}
use Rattle.lag_bus.specs.CachedClock.{fallen_at, caught_up, IsBehind}
use Rattle.lag_bus.proofs.DeferredTicks.{no_ticks, ticks_to_come}
use Rattle.lag_bus.proofs.FallenDue.{with_book-own, with_fallen-none, pass-with_fallen}
use Rattle.spc700_exec.specs.declared.bus.TheConstants.{CYCLES_PER_SAMPLE}

-- where memory alone is neither a port nor a timer nor the ROM is asked or known
pub record IsApart (io : Io) (at : ℕ) : Type 0 where
  pub register : (at == 0xF3) ≡ false
  pub port : is_within 0xF4 0xF7 at ≡ false
  pub answer : read_answer io at ≡ None
  pub read : after_read io at ≡ io
  pub write : (value : ℕ) → after_write io at value ≡ io

pub alone_apart : (io : Io) (at : ℕ) → IsMemoryAlone at → IsApart io at
alone_apart io at alone =
    let outside = alone.0 in
    let below = alone.1 in
    let f1 : (at == 0xF1) ≡ false = grind (arith, nat_tests) in
    let f2 : (at == 0xF2) ≡ false = grind (arith, nat_tests) in
    let f3 : (at == 0xF3) ≡ false = grind (arith, nat_tests) in
    let fa : (at == 0xFA) ≡ false = grind (arith, nat_tests) in
    let fb : (at == 0xFB) ≡ false = grind (arith, nat_tests) in
    let fc : (at == 0xFC) ≡ false = grind (arith, nat_tests) in
    let fd : (at == 0xFD) ≡ false = grind (arith, nat_tests) in
    let fe : (at == 0xFE) ≡ false = grind (arith, nat_tests) in
    let ff : (at == 0xFF) ≡ false = grind (arith, nat_tests) in
    let control : is_within 0xF0 0xF2 at ≡ false = grind (arith, nat_tests) in
    let ports : is_within 0xF4 0xF7 at ≡ false = grind (arith, nat_tests) in
    let timers : is_within 0xFA 0xFF at ≡ false = grind (arith, nat_tests) in
    let rom : is_within 0xFFC0 0xFFFF at ≡ false = grind (arith, nat_tests) in
    record {
      register = f3;
      port = ports;
      answer = rw (f2, ports, fd, fe, ff, rom, control, timers) refl;
      read = rw (fd, fe, ff) refl;
      write = λ value. rw (f1, f2, ports, fa, fb, fc) refl;
    }

module _ {S : Type 0} (chip : ChipMeaning S) (bus : Lagging S) where
  -- a bus that isn't behind
  pub caught_up-book : caught_up chip bus.machine.clock bus.machine.calls bus ≡ with_book bus.machine bus.book
  caught_up-book =
      let m = bus.machine in
      let none : fallen_at m.clock bus ≡ 0 = omega arith in
      (λ i. with_fallen chip bus (none i) m.clock (no_ticks m.io m.clock i) m.calls) ∙ with_fallen-none chip bus

  pub caught_up-none : MatchesBook bus → caught_up chip bus.machine.clock bus.machine.calls bus ≡ bus
  caught_up-none matches = caught_up-book ∙ sym (with_book-own bus matches.numbers)

  module _ (clock calls : ℕ) (behind : IsBehind clock calls bus) where
    -- cycles up to a moment at which fewer samples are pending than one batch has
    pub pass-caught_up : (cycles : ℕ) → cycles ≤ CYCLES_PER_SAMPLE → bus.book.pending + fallen_at (clock + cycles) bus < 64
        → (lagging chip).pass (caught_up chip clock calls bus) cycles ≡ caught_up chip (clock + cycles) (calls + 1) bus
    pass-caught_up cycles few free =
        let m = bus.machine in
        pass-with_fallen chip bus (fallen_at clock bus) clock (after_ticks_of m.io m.clock (clock - m.clock)) calls cycles few behind.earlier refl free
        ∙ (λ i. with_fallen chip bus (fallen_at (clock + cycles) bus) (clock + cycles) (sym (ticks_to_come m.io m.clock clock cycles behind.earlier) i) (calls + 1))

    few : bus.book.pending + fallen_at clock bus ≤ 64
    few = let free = behind.free in omega arith
