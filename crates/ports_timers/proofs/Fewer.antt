-- Counters that stay 0 over some cycles do so over fewer.
use Rattle.std.proofs.Common.{◌≡◌, ℕ, ◌≤◌, Bool, true, false, ◌||◌, ◌&&◌, nat_lt, refl, arith}
use Rattle.std.proofs.lemmas.Bool.{and_parts, and_from}
use Rattle.std.proofs.lemmas.Bool.Decides.{nat_tests}
use Rattle.ports_timers.specs.declared.io.Io.{Io}
use Rattle.ports_timers.specs.Timer.{tick_count}
use Rattle.ports_timers.specs.Io.{is_enabled}
use Rattle.ports_timers.specs.Zeros.{stays_if_0, zeros_stay}

or_less : (a e : Bool) (x y k : ℕ) → x ≤ y → (a || (e || nat_lt y k)) ≡ true → (a || (e || nat_lt x k)) ≡ true
or_less true e x y k less h = refl
or_less false true x y k less h = refl
or_less false false x y k less h = grind (arith, nat_tests)

pub zeros_stay-each : (io : Io) (clock n a b c : ℕ) → n ≤ a → n ≤ b → n ≤ c
    → stays_if_0 (is_enabled 0 io.control) 128 clock a io.timer0 ≡ true
    → stays_if_0 (is_enabled 1 io.control) 128 clock b io.timer1 ≡ true
    → stays_if_0 (is_enabled 2 io.control) 16 clock c io.timer2 ≡ true
    → zeros_stay io clock n ≡ true
zeros_stay-each io clock n a b c first second third stay0 stay1 stay2 =
    let ticks0 : tick_count 128 clock n ≤ tick_count 128 clock a = omega arith in
    let ticks1 : tick_count 128 clock n ≤ tick_count 128 clock b = omega arith in
    let ticks2 : tick_count 16 clock n ≤ tick_count 16 clock c = omega arith in
    and_from _ _ (and_from _ _ (or_less _ _ _ _ _ ticks0 stay0) (or_less _ _ _ _ _ ticks1 stay1)) (or_less _ _ _ _ _ ticks2 stay2)

pub zeros_stay-less : (io : Io) (clock n most : ℕ) → n ≤ most → zeros_stay io clock most ≡ true → zeros_stay io clock n ≡ true
zeros_stay-less io clock n most less h =
    let s0 = stays_if_0 (is_enabled 0 io.control) 128 clock most io.timer0 in
    let s1 = stays_if_0 (is_enabled 1 io.control) 128 clock most io.timer1 in
    let s2 = stays_if_0 (is_enabled 2 io.control) 16 clock most io.timer2 in
    let front : (s0 && s1) ≡ true = (and_parts (s0 && s1) s2 h).0 in
    zeros_stay-each io clock n most most most less less less (and_parts s0 s1 front).0 (and_parts s0 s1 front).1 (and_parts (s0 && s1) s2 h).1
