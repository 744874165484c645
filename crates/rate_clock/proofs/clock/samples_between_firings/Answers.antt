use Rattle.std.proofs.Common.{rules, ◌≡◌}
use Rattle.rate_clock.proofs.Tables.{period_positive}
use Rattle.rate_clock.proofs.Firing.{quiet_after, fires_after}
use Rattle.rate_clock.proofs.clock.samples_between_firings.Goals as goal

pub returns-clause-some : goal.returns-clause-some
returns-clause-some c positive =
    let place : c.from.result ≡ c.args.rate = search rules in
    rw place (period_positive c.args.rate positive c.requires)

pub returns-clause-quiet : goal.returns-clause-quiet
returns-clause-quiet c k fired =
    let place : c.from.result ≡ c.args.rate = search rules in
    rw place (quiet_after c.args.rate k c.requires fired)

pub returns-clause-then_fires : goal.returns-clause-then_fires
returns-clause-then_fires c k fired =
    let place : c.from.result ≡ c.args.rate = search rules in
    rw place (fires_after c.args.rate k c.requires fired)
