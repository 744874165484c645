use Rattle.std.proofs.Common.{◌≡◌, ◌≢◌, ◌%◌, ◌==◌, ◌/◌, ◌^◌, ℕ, false, slice_index, ap, sym, ◌∙◌, arith}
use Rattle.std.specs.Int.{bit_at}
use Rattle.std.proofs.lemmas.Bool.Decides.{nat_tests}
use Rattle.num_fix.specs.Arithmetic.{has_bit}
use Rattle.voice_unit.specs.KeyBits.{HasBitsOf}
use Rattle.voice_batch.proofs.plain.is_ever_latched.Goals as goal

-- a bit that isn't set is 0
off : (x : ℕ) → (x % 2 == 1) ≡ false → x % 2 ≡ 0
off x e = let other : x % 2 ≢ 1 = grind (arith, nat_tests, e) in omega (arith, other)

pub returns : goal.returns
returns c quiet j below =
    let none : has_bit c.args.rows.now.any c.args.voice ≡ false = sym c.has_bit.ensures ∙ quiet in
    let zero : bit_at c.args.rows.now.any c.args.voice ≡ 0 = off (c.args.rows.now.any / 2 ^ c.args.voice) none in
    let taken : HasBitsOf c.args.rows.now.kon c.args.rows.now.any = c.args.rows.now.has_bits in
    let here : bit_at (slice_index c.args.rows.now.kon j) c.args.voice ≡ 0 = omega (arith, zero, taken.bits j c.args.voice below) in
    ap (λ (bit : ℕ). bit == 1) here
