-- Over cycles in which each counter that is 0 stays 0, a read of an input port, of a constant cell or of such a
-- counter has one answer, and changes nothing.
use Rattle.std.proofs.Common.{◌≡◌, ℕ, Bool, true, false, not, ◌||◌, ◌&&◌, ◌==◌, refl, ap, ◌∙◌, arith, Some}
use Rattle.std.proofs.lemmas.Bool.{and_parts}
use Rattle.std.specs.Prelude.{if◌then◌else◌}
use Rattle.std.proofs.lemmas.Bool.Decides.{nat_tests}
use Rattle.ports_timers.specs.declared.timer.Timer.{Timer}
use Rattle.ports_timers.specs.declared.io.Io.{Io}
use Rattle.ports_timers.specs.Timer.{after_cycles}
use Rattle.ports_timers.specs.Io.{is_enabled, is_within, read_answer, after_read, after_ticks_of}
use Rattle.ports_timers.specs.Zeros.{stays, stays_if_0, zeros_stay, counter_is_0, IsTimer, AreTimers}
use Rattle.ports_timers.proofs.Ticks.{output-stays}

if_same : {A : Type 0} (b : Bool) (x y x' y' : A) → (b ≡ true → x ≡ x') → y ≡ y' → (if b then x else y) ≡ (if b then x' else y')
if_same true x y x' y' first second = first refl
if_same false x y x' y' first second = second

-- the test after a test that fails
or_holds : (a b : Bool) → (not a || b) ≡ true → a ≡ true → b ≡ true
or_holds true b h is = h
or_holds false b h is = absurd (cc)

output-zero : (enabled : Bool) (period clock cycles : ℕ) (timer : Timer) → IsTimer timer → stays_if_0 enabled period clock cycles timer ≡ true
    → (timer.output == 0) ≡ true → (after_cycles enabled period clock cycles timer).output ≡ timer.output
output-zero enabled period clock cycles timer small stay zero =
    output-stays enabled period clock cycles timer small.target small.inner (or_holds (timer.output == 0) (stays enabled period clock cycles timer) stay zero)

-- the two states answer the same where a counter is read at an address
record AreAlike (at : ℕ) (io later : Io) : Type 0 where
  timer0 : (at == 0xFD) ≡ true → later.timer0.output ≡ io.timer0.output
  timer1 : (at == 0xFE) ≡ true → later.timer1.output ≡ io.timer1.output
  timer2 : (at == 0xFF) ≡ true → later.timer2.output ≡ io.timer2.output

-- what the test says of each of the counters
zero0 : (a b c : Bool) (x y z : Bool) → (if a then x else if b then y else if c then z else true) ≡ true → a ≡ true → x ≡ true
zero0 true b c x y z h is = h
zero0 false b c x y z h is = absurd (cc)

zero1 : (a b c : Bool) (x y z : Bool) → (if a then x else if b then y else if c then z else true) ≡ true → a ≡ false → b ≡ true → y ≡ true
zero1 false true c x y z h first is = h
zero1 true b c x y z h first is = absurd (cc)
zero1 false false c x y z h first is = absurd (cc)

zero2 : (a b c : Bool) (x y z : Bool) → (if a then x else if b then y else if c then z else true) ≡ true → a ≡ false → b ≡ false → c ≡ true → z ≡ true
zero2 false false true x y z h first second is = h
zero2 true b c x y z h first second is = absurd (cc)
zero2 false true c x y z h first second is = absurd (cc)
zero2 false false false x y z h first second is = absurd (cc)

are_alike : (at : ℕ) (io : Io) (clock cycles : ℕ) → AreTimers io → zeros_stay io clock cycles ≡ true → counter_is_0 io at ≡ true → AreAlike at io (after_ticks_of io clock cycles)
are_alike at io clock cycles small stay zero =
    let s0 = stays_if_0 (is_enabled 0 io.control) 128 clock cycles io.timer0 in
    let s1 = stays_if_0 (is_enabled 1 io.control) 128 clock cycles io.timer1 in
    let s2 = stays_if_0 (is_enabled 2 io.control) 16 clock cycles io.timer2 in
    let front : (s0 && s1) ≡ true = (and_parts (s0 && s1) s2 stay).0 in
    record {
      timer0 = λ is. output-zero (is_enabled 0 io.control) 128 clock cycles io.timer0 small.timer0 (and_parts s0 s1 front).0
          (zero0 (at == 0xFD) (at == 0xFE) (at == 0xFF) _ _ _ zero is);
      timer1 = λ is. let other : (at == 0xFD) ≡ false = grind (arith, nat_tests) in
          output-zero (is_enabled 1 io.control) 128 clock cycles io.timer1 small.timer1 (and_parts s0 s1 front).1
          (zero1 (at == 0xFD) (at == 0xFE) (at == 0xFF) _ _ _ zero other is);
      timer2 = λ is. let other : (at == 0xFD) ≡ false = grind (arith, nat_tests) in
          let another : (at == 0xFE) ≡ false = grind (arith, nat_tests) in
          output-zero (is_enabled 2 io.control) 16 clock cycles io.timer2 small.timer2 (and_parts (s0 && s1) s2 stay).1
          (zero2 (at == 0xFD) (at == 0xFE) (at == 0xFF) _ _ _ zero other another is);
    }

pub read_answer-stays : (at : ℕ) (io : Io) (clock cycles : ℕ) → AreTimers io → zeros_stay io clock cycles ≡ true → counter_is_0 io at ≡ true
    → read_answer (after_ticks_of io clock cycles) at ≡ read_answer io at
read_answer-stays at io clock cycles small stay zero =
    let alike = are_alike at io clock cycles small stay zero in
    if_same (at == 0xF2) _ _ _ _ (λ _. refl)
    (if_same (is_within 0xF4 0xF7 at) _ _ _ _ (λ _. refl)
    (if_same (at == 0xFD) _ _ _ _ (λ is. ap Some (alike.timer0 is))
    (if_same (at == 0xFE) _ _ _ _ (λ is. ap Some (alike.timer1 is))
    (if_same (at == 0xFF) _ _ _ _ (λ is. ap Some (alike.timer2 is)) refl))))

counter_is_0-stays : (at : ℕ) (io : Io) (clock cycles : ℕ) → AreTimers io → zeros_stay io clock cycles ≡ true → counter_is_0 io at ≡ true
    → counter_is_0 (after_ticks_of io clock cycles) at ≡ true
counter_is_0-stays at io clock cycles small stay zero =
    let alike = are_alike at io clock cycles small stay zero in
    if_same (at == 0xFD) _ _ _ _ (λ is. ap (λ (n : ℕ). n == 0) (alike.timer0 is))
    (if_same (at == 0xFE) _ _ _ _ (λ is. ap (λ (n : ℕ). n == 0) (alike.timer1 is))
    (if_same (at == 0xFF) _ _ _ _ (λ is. ap (λ (n : ℕ). n == 0) (alike.timer2 is)) refl))
    ∙ zero

zero_of : (n : ℕ) → (n == 0) ≡ true → 0 ≡ n
zero_of n h = grind (arith, nat_tests)

-- a read of a counter that is 0 changes nothing
clears_nothing : (io : Io) (a b c : Bool) → (if a then io.timer0.output == 0 else if b then io.timer1.output == 0 else if c then io.timer2.output == 0 else true) ≡ true
    → (if a then record io { timer0 = record io.timer0 { output = 0 } } else if b then record io { timer1 = record io.timer1 { output = 0 } } else if c then record io { timer2 = record io.timer2 { output = 0 } } else io) ≡ io
clears_nothing io true b c h = λ i. record io { timer0 = record io.timer0 { output = zero_of io.timer0.output h i } }
clears_nothing io false true c h = λ i. record io { timer1 = record io.timer1 { output = zero_of io.timer1.output h i } }
clears_nothing io false false true h = λ i. record io { timer2 = record io.timer2 { output = zero_of io.timer2.output h i } }
clears_nothing io false false false h = refl

pub after_read-stays : (at : ℕ) (io : Io) (clock cycles : ℕ) → AreTimers io → zeros_stay io clock cycles ≡ true → counter_is_0 io at ≡ true
    → after_read (after_ticks_of io clock cycles) at ≡ after_ticks_of io clock cycles
after_read-stays at io clock cycles small stay zero =
    clears_nothing (after_ticks_of io clock cycles) (at == 0xFD) (at == 0xFE) (at == 0xFF) (counter_is_0-stays at io clock cycles small stay zero)
