use Rattle.std.proofs.Common.{rules, ◌≡◌, ◌<◌, arith}
use Rattle.std.proofs.lemmas.Bool.Decides.{nat_tests}
use Rattle.batch_rows.specs.Rows.{keys_after}
use Rattle.batch_rows.proofs.KeysApart.{unkeyed_after_four}
use Rattle.batch_rows.proofs.keys.keyed_samples.Goals as goal

pub returns-then-state-eq0-2-clause-rest : goal.returns-then-state-eq0-2-clause-rest
unfolding keys_after
returns-then-state-eq0-2-clause-rest c k some = record {
  kon_pending = grind (arith, nat_tests, c.if-state-eq0.true);
  kon_latched = grind (arith, nat_tests, c.if-state-eq0-2.true);
}

pub returns-else-state-eq0-clause-rest : goal.returns-else-state-eq0-clause-rest
returns-else-state-eq0-clause-rest c k some =
    let byte : c.args.state.now.hidden.kon_pending < 0x100 = search rules in
    let four : c.min.result ≡ 4 = omega (arith, some, c.min.ensures) in
    rw four (unkeyed_after_four k c.args.state.now byte)
