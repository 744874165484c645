use Rattle.std.proofs.Common.{◌≡◌, ◌<◌, arith, rules, ◌∙◌}
use Rattle.rate_clock.specs.Counter.{counter_at}
use Rattle.rate_clock.proofs.Tables.{offset_bound, period_positive}
use Rattle.rate_clock.proofs.Firing.{quiet_until, fires_then}
use Rattle.rate_clock.proofs.clock.RateClock.until_fires.Goals as goal

pub overflow_add-result : goal.overflow_add-result
overflow_add-result c = let within : c.from-place.result < 32 = search rules in omega (arith, offset_bound c.from-place.result within)

pub nonzero_rem-result : goal.nonzero_rem-result
nonzero_rem-result c =
    let positive : 0 < c.from-place.result = search rules in
    let within : c.from-place.result < 32 = search rules in
    period_positive c.from-place.result positive within

pub returns-clause-quiet : goal.returns-clause-quiet
returns-clause-quiet c k at =
    let place : c.from-place.result ≡ c.args.rate = search rules in
    let same : c.self.inside.counter ≡ counter_at k = c.self.view_is ∙ at in
    rw (place, same) (quiet_until c.args.rate k c.requires.positive c.requires.within)

pub returns-clause-then_fires : goal.returns-clause-then_fires
returns-clause-then_fires c k at =
    let place : c.from-place.result ≡ c.args.rate = search rules in
    let same : c.self.inside.counter ≡ counter_at k = c.self.view_is ∙ at in
    rw (place, same) (fires_then c.args.rate k c.requires.positive c.requires.within)
