use Rattle.std.proofs.Common.{◌≡◌, ◌<◌, ◌^◌, ◌*◌, ◌%◌, arith}
use Rattle.std.proofs.lemmas.Nat.{pow_below, one_shl}
use Rattle.std.proofs.lemmas.Int.{ints}
use Rattle.brr_decode.proofs.digit.power_of_two.Goals as goal

pub returns : goal.returns
returns c =
    let small : 2 ^ c.args.shift < 2 ^ 13 = pow_below c.args.shift 13 (omega (arith, c.requires)) in
    let whole : 1 * 2 ^ c.args.shift % 2 ^ 16 ≡ 2 ^ c.args.shift = one_shl c.args.shift 16 (omega arith) in
    omega (arith, ints, small, whole)
