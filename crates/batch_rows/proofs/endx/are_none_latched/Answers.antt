use Rattle.std.proofs.Common.{◌≡◌, arith}
use Rattle.std.proofs.lemmas.Bool.Decides.{nat_tests}
use Rattle.voice_unit.specs.KeyBits.{HasBitsOf}
use Rattle.batch_rows.proofs.endx.are_none_latched.Goals as goal

pub returns : goal.returns
returns c quiet j below =
    let none : c.args.rows.now.any ≡ 0 = grind (arith, nat_tests, quiet) in
    let kon_latched : HasBitsOf c.args.rows.now.kon c.args.rows.now.any = c.args.rows.now.has_bits in
    omega (arith, none, kon_latched.most j below)
