use Rattle.std.proofs.Common.{rules, to_z, of_z, w32, ◌≡◌}
use Rattle.num_fix.specs.Arithmetic.{scaled}
use Rattle.num_fix.proofs.Bounds.{scaled_bound}
use Rattle.num_fix.proofs.scaled.Goals as goal

pub returns-clause-bound : goal.returns-clause-bound
unfolding scaled
returns-clause-bound c =
    let value : to_z w32 (of_z w32 c.sar.result) ≡ scaled c.args.a c.args.b c.args.n = search rules in
    rw value (scaled_bound c.args.a c.args.b c.args.n c.ranges.a c.ranges.b c.requires)
