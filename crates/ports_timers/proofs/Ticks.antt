-- Ticks compose, and a counter stays what it is until its inner counter comes to the target.
use Rattle.std.proofs.Common.{◌≡◌, ℕ, zero, suc, ◌+◌, ◌%◌, ◌<◌, Bool, true, false, ◌==◌, refl, ap, sym, ◌∙◌, ◌-◌, arith}
use Rattle.std.proofs.lemmas.Bool.Decides.{nat_tests}
use Rattle.ports_timers.specs.declared.timer.Timer.{Timer}
use Rattle.ports_timers.specs.declared.io.Io.{Io}
use Rattle.ports_timers.specs.Timer.{after_tick, after_ticks, after_cycles, tick_count}
use Rattle.ports_timers.specs.Io.{is_enabled, after_ticks_of}
use Rattle.ports_timers.specs.Zeros.{ticks_to_count, stays}

pub after_ticks-add : (m n : ℕ) (timer : Timer) → after_ticks (n + m) timer ≡ after_ticks n (after_ticks m timer)
unfolding after_ticks
after_ticks-add m zero timer = ap (λ (k : ℕ). after_ticks k timer) (let e : 0 + m ≡ m = omega arith in e)
after_ticks-add m (suc n) timer =
    let e : suc n + m ≡ suc (n + m) = omega arith in
    ap (λ (k : ℕ). after_ticks k timer) e ∙ ap after_tick (after_ticks-add m n timer)

after_cycles-then : (enabled : Bool) (period clock a b : ℕ) (timer : Timer) → tick_count period clock (a + b) ≡ tick_count period (clock + a) b + tick_count period clock a
    → after_cycles enabled period clock (a + b) timer ≡ after_cycles enabled period (clock + a) b (after_cycles enabled period clock a timer)
after_cycles-then true period clock a b timer adds =
    ap (λ (k : ℕ). after_ticks k timer) adds ∙ after_ticks-add (tick_count period clock a) (tick_count period (clock + a) b) timer
after_cycles-then false period clock a b timer adds = refl

-- the ticks of a + b cycles are those of a cycles and then those of b
pub after_ticks_of-then : (io : Io) (clock a b : ℕ) → after_ticks_of io clock (a + b) ≡ after_ticks_of (after_ticks_of io clock a) (clock + a) b
after_ticks_of-then io clock a b =
    let slow : tick_count 128 clock (a + b) ≡ tick_count 128 (clock + a) b + tick_count 128 clock a = omega arith in
    let fast : tick_count 16 clock (a + b) ≡ tick_count 16 (clock + a) b + tick_count 16 clock a = omega arith in
    λ i. record io {
      timer0 = after_cycles-then (is_enabled 0 io.control) 128 clock a b io.timer0 slow i;
      timer1 = after_cycles-then (is_enabled 1 io.control) 128 clock a b io.timer1 slow i;
      timer2 = after_cycles-then (is_enabled 2 io.control) 16 clock a b io.timer2 fast i;
    }

pub after_ticks_of-none : (io : Io) (clock : ℕ) → after_ticks_of io clock 0 ≡ io
unfolding after_ticks
after_ticks_of-none io clock =
    let slow : tick_count 128 clock 0 ≡ 0 = omega arith in
    let fast : tick_count 16 clock 0 ≡ 0 = omega arith in
    λ i. record io {
      timer0 = none (is_enabled 0 io.control) 128 clock io.timer0 slow i;
      timer1 = none (is_enabled 1 io.control) 128 clock io.timer1 slow i;
      timer2 = none (is_enabled 2 io.control) 16 clock io.timer2 fast i;
    }
  where
    none : (enabled : Bool) (period clock : ℕ) (timer : Timer) → tick_count period clock 0 ≡ 0 → after_cycles enabled period clock 0 timer ≡ timer
    none true period clock timer e = ap (λ (k : ℕ). after_ticks k timer) e
    none false period clock timer e = refl

-- below the ticks to the next count the inner counter goes on and the output counter stays
pub after_ticks-below : (n : ℕ) (timer : Timer) → timer.target < 256 → timer.inner < 256 → n < ticks_to_count timer
    → after_ticks n timer ≡ record timer { inner = (timer.inner + n) % 256 }
unfolding after_ticks
after_ticks-below zero timer small low few =
    let e : timer.inner ≡ (timer.inner + 0) % 256 = omega arith in
    λ i. record timer { inner = e i }
after_ticks-below (suc n) timer small low few =
    let before = after_ticks-below n timer small low (omega arith) in
    let next : ((timer.inner + n) % 256 + 1) % 256 ≡ (timer.inner + suc n) % 256 = omega arith in
    let off : (((timer.inner + n) % 256 + 1) % 256 == timer.target) ≡ false = grind (arith, nat_tests) in
    ap after_tick before ∙ rw off (λ i. record timer { inner = next i })

-- and at them the output counter goes on
pub after_ticks-count : (timer : Timer) → timer.target < 256 → timer.inner < 256
    → record timer { inner = 0; output = (timer.output + 1) % 256 % 16 } ≡ after_ticks (ticks_to_count timer) timer
unfolding after_ticks
after_ticks-count timer small low =
    let m : ℕ = (timer.target + 255 - timer.inner) % 256 in
    let e : ticks_to_count timer ≡ suc m = omega arith in
    let before = after_ticks-below m timer small low (omega arith) in
    let on : (((timer.inner + m) % 256 + 1) % 256 == timer.target) ≡ true = grind (arith, nat_tests) in
    let o : (timer.output + 1) % 16 ≡ (timer.output + 1) % 256 % 16 = omega arith in
    sym (ap (λ (k : ℕ). after_ticks k timer) e ∙ ap after_tick before ∙ rw on (λ i. record timer { inner = 0; output = o i }))

pub output-stays : (enabled : Bool) (period clock cycles : ℕ) (timer : Timer) → timer.target < 256 → timer.inner < 256
    → stays enabled period clock cycles timer ≡ true → (after_cycles enabled period clock cycles timer).output ≡ timer.output
output-stays true period clock cycles timer small low few =
    let below : tick_count period clock cycles < ticks_to_count timer = grind (arith, nat_tests) in
    ap (λ (t : Timer). t.output) (after_ticks-below (tick_count period clock cycles) timer small low below)
output-stays false period clock cycles timer small low few = refl
