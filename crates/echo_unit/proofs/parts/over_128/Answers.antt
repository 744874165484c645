use Rattle.std.proofs.Common.{◌≡◌, ◌≤◌, ℤ, pos, ◌+ℤ◌, ◌-ℤ◌, ◌*ℤ◌, neg_ℤ, ◌≤ℤ◌, ◌<ℤ◌, unsigned_abs, FitsSigned, negsuc, to_z, of_z, arith}
use Rattle.std.specs.Int.{w16, int_shr}
use Rattle.std.proofs.lemmas.Int.{ints, to_z-of_z, fits_signed_from_abs}
use Rattle.num_fix.specs.Arithmetic.{floor_shift}
use Rattle.num_fix.proofs.Quotients.{rest_of-small, shift_and_rest}
use Rattle.echo_unit.proofs.Products.{scaled-in_parts}
use Rattle.echo_unit.proofs.parts.over_128.Goals as goal

-- a number of 16 bits is read as itself
same : (z : ℤ) → unsigned_abs z ≤ 32767 → to_z w16 (of_z w16 z) ≡ z
same z small = to_z-of_z w16 z (fits_signed_from_abs w16 z (omega (arith, small)))

-- a number below a half has 16 bits in 65,536ths
fits : (z : ℤ) → neg_ℤ (pos 64) ≤ℤ z → z <ℤ pos 64 → FitsSigned w16 (z *ℤ pos 512)
fits (pos n) least below = record { sfits = omega (arith, ints, below) }
fits (negsuc n) least below = record { sfits = omega (arith, ints, least) }

pub returns : goal.returns
unfolding floor_shift
returns c sample =
    let number : ℤ = c.args.volume in
    let rounded = shift_and_rest (number +ℤ pos 64) 7 in
    let rest = rest_of-small (number +ℤ pos 64) 7 in
    let whole : ℤ = int_shr (number +ℤ pos 64) 7 in
    let part : ℤ = (number -ℤ pos 128 *ℤ whole) *ℤ pos 512 in
    let a : to_z w16 (of_z w16 number) ≡ number = same number (omega (arith, c.requires)) in
    let b : to_z w16 (of_z w16 (number +ℤ pos 64)) ≡ number +ℤ pos 64 = same (number +ℤ pos 64) (omega (arith, ints, c.requires)) in
    let d : to_z w16 (of_z w16 whole) ≡ whole = same whole (omega (arith, ints, c.requires, rounded, rest)) in
    let e : to_z w16 (of_z w16 (pos 128 *ℤ whole)) ≡ pos 128 *ℤ whole = same (pos 128 *ℤ whole) (omega (arith, ints, c.requires, rounded, rest)) in
    let f : to_z w16 (of_z w16 (number -ℤ pos 128 *ℤ whole)) ≡ number -ℤ pos 128 *ℤ whole = same (number -ℤ pos 128 *ℤ whole) (omega (arith, ints, c.requires, rounded, rest)) in
    let rest_of_it : ℤ = number -ℤ pos 128 *ℤ whole in
    let least : neg_ℤ (pos 64) ≤ℤ rest_of_it = omega (arith, ints, rounded, rest) in
    let below : rest_of_it <ℤ pos 64 = omega (arith, ints, rounded, rest) in
    let g : to_z w16 (of_z w16 part) ≡ part = to_z-of_z w16 part (fits rest_of_it least below) in
    rw (a, b, d, e, f, g) (scaled-in_parts 7 512 sample number part whole (omega arith) (omega arith) (omega (arith, ints)))
