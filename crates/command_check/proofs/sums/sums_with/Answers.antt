use Rattle.std.proofs.Common.{◌≡◌, ◌<◌, ◌^◌, FitsSigned, unsigned_abs, arith, rules}
use Rattle.std.specs.Int.{w16}
use Rattle.command_check.proofs.CheckSums.{side_added}
use Rattle.command_check.proofs.sums.sums_with.Goals as goal

pub returns-clause-sums : goal.returns-clause-sums
returns-clause-sums c =
    let sums = c.args.sums in
    let frame = c.args.frame in
    let left_fits : FitsSigned w16 frame.left = search rules in
    let right_fits : FitsSigned w16 frame.right = search rules in
    let is_left : c.from.result ≡ frame.left = search rules in
    let is_right : c.from-2.result ≡ frame.right = search rules in
    let left_small : unsigned_abs sums.left < 2 ^ 40 = omega (arith, c.requires.within.left, c.requires.few) in
    let right_small : unsigned_abs sums.right < 2 ^ 40 = omega (arith, c.requires.within.right, c.requires.few) in
    λ i. record {
      left = side_added sums.left frame.left c.from.result left_small left_fits is_left i;
      right = side_added sums.right frame.right c.from-2.result right_small right_fits is_right i;
      mix = c.next_mix.ensures i;
    }
