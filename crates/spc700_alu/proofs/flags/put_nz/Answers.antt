use Rattle.std.proofs.Common.{ap, ◌∙◌, bit_and, bit_or, nat_le, ◌==◌, arith}
use Rattle.spc700_alu.proofs.BitFlags.{nz_at, put_nz_once}
use Rattle.spc700_alu.proofs.flags.put_nz.Goals as goal

pub returns : goal.returns
returns c =
    let psw = c.args.psw in
    let value = c.args.value in
    ap (λ n. bit_or (bit_and psw 125) n) (nz_at 0 value (omega arith)) ∙ put_nz_once psw (nat_le 0x80 value) (value == 0) (omega arith)
