use Rattle.std.proofs.Common.{◌≡◌, false, nat_eq, ap, arith}
use Rattle.std.proofs.lemmas.Bool.Decides.{nat_tests}
use Rattle.spc700_exec.proofs.Halted.{halts-by_first, halts-by_second}
use Rattle.spc700_exec.proofs.stepping.halts.Goals as goal

pub returns-then-op-eq-SLEEP : goal.returns-then-op-eq-SLEEP
returns-then-op-eq-SLEEP c = halts-by_first c.args.op (omega arith) (ap (λ n. nat_eq n 0xEF) c.if-op-eq-SLEEP.true)

pub returns-else-op-eq-SLEEP : goal.returns-else-op-eq-SLEEP
returns-else-op-eq-SLEEP c =
    let other = c.if-op-eq-SLEEP.false in
    let fails : nat_eq c.args.op 0xEF ≡ false = grind (arith, nat_tests) in
    halts-by_second c.args.op (omega arith) fails
