use Rattle.std.proofs.Common.{◌≤◌, ◌+◌, ◌-◌, arith}
use Rattle.std.proofs.lemmas.Bool.Decides.{nat_tests}
use Rattle.batch_rows.proofs.BoundingPages.{bytes_apart}
use Rattle.batch_rows.proofs.bounds.are_bytes_apart.Goals as goal

pub returns : goal.returns
returns c test =
    let far : c.args.len + (c.args.count - 1) ≤ c.from-3.result = grind (arith, nat_tests, test) in
    bytes_apart c.args.start c.args.count c.args.esa c.args.len c.from-3.result (omega arith) (omega arith) (omega arith) c.requires.some c.requires.whole far
