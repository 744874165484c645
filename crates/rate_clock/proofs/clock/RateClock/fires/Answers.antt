use Rattle.std.proofs.Common.{◌≡◌, ◌+◌, ◌<◌, ◌==◌, true, false, get_or, bit_and, refl, arith, rules}
use Rattle.std.proofs.lemmas.Bool.Decides.{nat_tests}
use Rattle.rate_clock.specs.Counter.{fires, offsets}
use Rattle.rate_clock.proofs.Tables.{offset_bound}
use Rattle.rate_clock.proofs.FiringByParts.{fires_by_parts, low_bits}
use Rattle.rate_clock.proofs.clock.RateClock.fires.Goals as goal

pub overflow_add-low : goal.overflow_add-low
overflow_add-low c = let within : c.from-place.result < 32 = omega arith in omega (arith, offset_bound c.from-place.result within)

pub returns-then-rate-eq0 : goal.returns-then-rate-eq0
unfolding fires
returns-then-rate-eq0 c = let none : c.args.rate ≡ 0 = omega arith in rw none refl

pub returns-then-low-eq0 : goal.returns-then-low-eq0
returns-then-low-eq0 c =
    let positive : 0 < c.args.rate = omega arith in
    let place : c.from-place.result ≡ c.args.rate = search rules in
    let low : (bit_and (c.args.self.now + get_or offsets c.args.rate 0) (get_or low_bits c.args.rate 0) == 0) ≡ true =
    rw (← c.self.view_is, ← place) (grind (arith, nat_tests)) in
    rw (fires_by_parts c.args.rate c.args.self.now positive c.requires, low, c.rest-rest.ensures, place) refl

pub returns-else-low-eq0 : goal.returns-else-low-eq0
returns-else-low-eq0 c =
    let positive : 0 < c.args.rate = omega arith in
    let place : c.from-place.result ≡ c.args.rate = search rules in
    let low : (bit_and (c.args.self.now + get_or offsets c.args.rate 0) (get_or low_bits c.args.rate 0) == 0) ≡ false =
    rw (← c.self.view_is, ← place) (grind (arith, nat_tests)) in
    rw (fires_by_parts c.args.rate c.args.self.now positive c.requires, low) (grind (arith, nat_tests))
