-- When a rate fires next.
use Rattle.std.proofs.Common.{◌≡◌, ℕ, zero, suc, ◌+◌, ◌-◌, ◌*◌, ◌/◌, ◌%◌, ◌<◌, ◌≤◌, ◌==◌, nat_lt, drop, true, false, get_or, slice_index, refl, sym, arith}
use Rattle.std.proofs.Math.Nat.{div-add-mod}
use Rattle.std.proofs.lemmas.Nat.{mod-mul-add, mod_below}
use Rattle.std.proofs.lemmas.Bool.{and_parts}
use Rattle.std.proofs.lemmas.Bool.Decides.{nat_tests}
use Rattle.rate_clock.specs.Counter.{counter_at, periods, offsets, fires, until_fires, IsQuiet}
use Rattle.rate_clock.proofs.Tables.{list_all-entry, period_positive}

-- each period divides the range of the counter
divides-range : (rate : ℕ) → 0 < rate → rate < 32 → slice_index periods rate * (30720 / slice_index periods rate) ≡ 30720
divides-range zero positive within = absurd (omega arith)
divides-range (suc r) positive within =
    let test : (get_or (drop 1 periods) r 0 * (30720 / get_or (drop 1 periods) r 0) == 30720) ≡ true =
    list_all-entry (λ x. x * (30720 / x) == 30720) (drop 1 periods) r (omega arith) refl in
    grind (arith, nat_tests)

-- the counter falls by 1 a sample, modulo its range
falls : (k j : ℕ) → counter_at (k + j) + j + 30720 * (k / 30720) ≡ counter_at k + 30720 * ((k + j) / 30720)
falls k j = omega arith

wraps : (k j : ℕ) → k / 30720 ≤ (k + j) / 30720
wraps k j = omega arith

-- numbers that fall from x to y by j, modulo the range
rest_falls : (p q x y j m r d : ℕ) → p * q ≡ 30720 → x ≡ p * m + r → r < p → j ≤ r → y + j ≡ x + 30720 * d → y % p ≡ r - j
rest_falls p q x y j m r d whole parts small within fall =
    let turned : 30720 * d ≡ q * d * p = rw (← whole) (omega arith) in
    let is : y ≡ (m + q * d) * p + (r - j) = omega (arith, turned) in
    rw is (mod-mul-add (m + q * d) p (r - j) (omega arith))

-- so many samples on, the rest is that much less
rest_at : (rate k j : ℕ) → 0 < rate → rate < 32 → j ≤ until_fires rate (counter_at k) → until_fires rate (counter_at (k + j)) ≡ until_fires rate (counter_at k) - j
rest_at rate k j positive within few =
    rest_falls p (30720 / p) x (counter_at (k + j) + offset) j (x / p) (x % p) ((k + j) / 30720 - k / 30720)
    (divides-range rate positive within) (sym (div-add-mod x p)) (mod_below x p (period_positive rate positive within)) few
    (omega (arith, falls k j, wraps k j))
  where
    p : ℕ
    p = slice_index periods rate

    offset : ℕ
    offset = slice_index offsets rate

    x : ℕ
    x = counter_at k + offset

-- before that it doesn't fire
pub quiet_until : (rate k : ℕ) → 0 < rate → rate < 32 → IsQuiet rate k (until_fires rate (counter_at k))
unfolding fires
quiet_until rate k positive within j few =
    let rest : until_fires rate (counter_at (k + j)) ≡ until_fires rate (counter_at k) - j = rest_at rate k j positive within (omega (arith, few)) in
    let some : nat_lt 0 rate ≡ true = grind (arith, nat_tests) in
    let more : (until_fires rate (counter_at k) - j == 0) ≡ false = grind (arith, nat_tests) in
    rw (some, rest, more) refl

-- and then it fires
pub fires_then : (rate k : ℕ) → 0 < rate → rate < 32 → fires rate (counter_at (k + until_fires rate (counter_at k))) ≡ true
unfolding fires
fires_then rate k positive within =
    let count : ℕ = until_fires rate (counter_at k) in
    let rest : until_fires rate (counter_at (k + count)) ≡ count - count = rest_at rate k count positive within (omega arith) in
    let some : nat_lt 0 rate ≡ true = grind (arith, nat_tests) in
    let none : count - count ≡ 0 = omega arith in
    rw (some, rest, none) refl

positive_factor : (a p y : ℕ) → a * p ≡ y + 1 → 0 < a
positive_factor zero p y e = absurd (omega arith)
positive_factor (suc a) p y e = omega arith

-- a firing leaves no rest, and the next sample all but one of the period
rest_after : (p q x y m d : ℕ) → p * q ≡ 30720 → 0 < p → x ≡ p * m → y + 1 ≡ x + 30720 * d → y % p ≡ p - 1
rest_after p q x y m d whole positive parts fall =
    let turned : 30720 * d ≡ q * d * p = rw (← whole) (omega arith) in
    let all : (m + q * d) * p ≡ y + 1 = omega (arith, turned) in
    let some : 0 < m + q * d = positive_factor (m + q * d) p y all in
    let fewer : ℕ = m + q * d - 1 in
    let next : m + q * d ≡ fewer + 1 = omega (arith, some) in
    let is : y ≡ fewer * p + (p - 1) = omega (arith, positive, (rw next at all)) in
    rw is (mod-mul-add fewer p (p - 1) (omega arith))

until_after : (rate k : ℕ) → 0 < rate → rate < 32 → until_fires rate (counter_at k) ≡ 0 → until_fires rate (counter_at (k + 1)) ≡ slice_index periods rate - 1
until_after rate k positive within now =
    rest_after p (30720 / p) x (counter_at (k + 1) + offset) (x / p) ((k + 1) / 30720 - k / 30720)
    (divides-range rate positive within) (period_positive rate positive within) (omega (arith, div-add-mod x p, now))
    (omega (arith, falls k 1, wraps k 1))
  where
    p : ℕ
    p = slice_index periods rate

    offset : ℕ
    offset = slice_index offsets rate

    x : ℕ
    x = counter_at k + offset

-- a rate that fires is above 0, and no sample is left until it does
fires_now : (rate counter : ℕ) → fires rate counter ≡ true → (0 < rate) × (until_fires rate counter ≡ 0)
unfolding fires
fires_now rate counter h =
    let parts = and_parts (nat_lt 0 rate) (until_fires rate counter == 0) h in
    (grind (arith, nat_tests, parts.0), grind (arith, nat_tests, parts.1))

-- from a firing on a rate is quiet for its period
pub quiet_after : (rate k : ℕ) → rate < 32 → fires rate (counter_at k) ≡ true → IsQuiet rate (k + 1) (slice_index periods rate - 1)
quiet_after rate k within h =
    let now = fires_now rate (counter_at k) h in
    rw (until_after rate k now.0 within now.1) at (quiet_until rate (k + 1) now.0 within)

-- and then it fires
pub fires_after : (rate k : ℕ) → rate < 32 → fires rate (counter_at k) ≡ true → fires rate (counter_at (k + slice_index periods rate)) ≡ true
fires_after rate k within h =
    let now = fires_now rate (counter_at k) h in
    let some = period_positive rate now.0 within in
    let place : k + 1 + (slice_index periods rate - 1) ≡ k + slice_index periods rate = omega (arith, some) in
    rw (until_after rate k now.0 within now.1, place) at (fires_then rate (k + 1) now.0 within)
