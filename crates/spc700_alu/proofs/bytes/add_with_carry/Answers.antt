use Rattle.std.proofs.Common.{◌≡◌, ℕ, ◌+◌, ◌%◌, ◌/◌, ◌∙◌, ap, bit_and, bit_or, nat_le, arith}
use Rattle.spc700_alu.specs.Bytes.{byte_sum, overflows}
use Rattle.std.specs.Int.RustNames.{bit_xor}
use Rattle.spc700_alu.specs.Flags.{V, H, C, with_nz}
use Rattle.spc700_alu.proofs.BitFlags.{bit_of_flag, half_of_bits, overflow_of_bits, carry_of_sum, put_sum_once}
use Rattle.spc700_alu.proofs.bytes.add_with_carry.Goals as goal

pub returns : goal.returns
unfolding byte_sum
returns c =
    let a = c.args.a in
    let b = c.args.b in
    let carry = c.args.carry in
    let psw = c.args.psw in
    let sum = a + b + carry in
    let value = sum % 0x100 in
    let out = carry_of_sum sum (omega arith) in
    let half = half_of_bits a b carry c.requires in
    let over = overflow_of_bits a b value (omega arith) (omega arith) (omega arith) in
    let half_bit = bit_and (bit_xor (bit_xor a b) value) 0x10 / 2 in
    let over_bit = bit_and (bit_and (bit_xor a value) (bit_xor b value)) 0x80 / 2 in
    let bits : bit_or (bit_or (bit_or (bit_and psw 182) (sum / 0x100)) half_bit) over_bit ≡ bit_or (bit_or (bit_or (bit_and psw 182) (bit_of_flag C (nat_le 0x100 sum))) (bit_of_flag H (nat_le 0x10 (a % 0x10 + b % 0x10 + carry)))) (bit_of_flag V (overflows 0x80 a b value)) =
    λ i. bit_or (bit_or (bit_or (bit_and psw 182) (out i)) (half i)) (over i) in
    let once = put_sum_once psw (overflows 0x80 a b value) (nat_le 0x10 (a % 0x10 + b % 0x10 + carry)) (nat_le 0x100 sum) (omega arith) in
    ap (λ (p : ℕ). record { value = value; psw = p }) (c.put_nz.ensures ∙ ap (with_nz value) (bits ∙ once))
