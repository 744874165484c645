use Rattle.std.proofs.Common.{arith}
use Rattle.std.proofs.lemmas.Int.{ints}
use Rattle.gauss_table.specs.TapBounds.{AreSmall}
use Rattle.gauss_table.proofs.taps.Taps.older_sum.Goals as goal

pub returns : goal.returns
returns c =
    let small : AreSmall c.args.self.now.oldest c.args.self.now.older c.args.self.now.newer c.args.self.now.newest = c.args.self.now.are_small in
    omega (arith, ints)
