use Rattle.std.proofs.Common.{◌≡◌, refl, arith}
use Rattle.std.proofs.lemmas.Bool.Decides.{nat_tests}
use Rattle.rate_clock.specs.Counter.{fires}
use Rattle.batch_rows.proofs.keys.first_firing.Goals as goal

pub returns-then-rate-eq0-clause-quiet : goal.returns-then-rate-eq0-clause-quiet
unfolding fires
returns-then-rate-eq0-clause-quiet c k j is below =
    let none : c.args.rate ≡ 0 = grind (arith, nat_tests, c.if-rate-eq0.true) in
    rw none refl

pub returns-clause-quiet : goal.returns-clause-quiet
returns-clause-quiet c k j is below = c.until_fires.ensures.quiet k is j (omega (arith, below, c.min.ensures, c.from.ensures))

pub returns-clause-fires : goal.returns-clause-fires
returns-clause-fires c k is below =
    let place : c.until_fires.result ≡ c.min.result = omega (arith, below, c.min.ensures, c.from.ensures) in
    rw place at (c.until_fires.ensures.then_fires k is)
