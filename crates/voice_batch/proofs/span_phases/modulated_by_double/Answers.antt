use Rattle.std.proofs.Common.{◌≡◌, ◌≤◌, ◌*◌, ◌^◌, ℤ, pos, negsuc, ◌≤ℤ◌, ◌*ℤ◌, unsigned_abs, FitsSigned, ap, ◌∙◌, arith}
use Rattle.std.specs.Int.{w16}
use Rattle.std.proofs.lemmas.Int.{ints, to_z-of_z}
use Rattle.num_fix.specs.Arithmetic.{scaled, floor_shift}
use Rattle.num_fix.proofs.Bounds.{scaled_at_most, floor_shift_bound}
use Rattle.num_fix.proofs.Quotients.{rest_of-small, shift_and_rest}
use Rattle.voice_batch.proofs.Bending.{bend_by_double, fits_times_32}
use Rattle.voice_batch.proofs.span_phases.modulated_by_double.Goals as goal

-- the product by the double is the bend
value : (c : goal.After-scaled-bend) → c.scaled-bend.result ≡ scaled (floor_shift c.args.previous 5) (pos c.args.pitch) 10
unfolding floor_shift
value c =
    let part : ℤ = floor_shift c.args.previous 5 in
    let whole = shift_and_rest c.args.previous 5 in
    let samples_until_change = rest_of-small c.args.previous 5 in
    let low : negsuc 1023 ≤ℤ part = omega (arith, ints, whole, samples_until_change) in
    let high : part ≤ℤ pos 1023 = omega (arith, ints, whole, samples_until_change) in
    let fits : FitsSigned w16 (part *ℤ pos 32) = fits_times_32 part low high in
    let product : c.scaled-bend.result ≡ scaled (part *ℤ pos 32) (pos (2 * c.args.pitch)) 16 = grind (arith, ints, to_z-of_z) in
    let double : pos (2 * c.args.pitch) ≡ pos c.args.pitch *ℤ pos 2 = omega (arith, ints) in
    product ∙ ap (λ (z : ℤ). scaled (part *ℤ pos 32) z 16) double ∙ bend_by_double part (pos c.args.pitch)

-- it is at most the pitch itself
bound : (c : goal.After-scaled-bend) → unsigned_abs c.scaled-bend.result ≤ c.args.pitch
bound c =
    let quiet : unsigned_abs c.args.previous ≤ 1024 * 2 ^ 5 = omega (arith, ints) in
    let part : unsigned_abs (floor_shift c.args.previous 5) ≤ 1024 = floor_shift_bound c.args.previous 5 1024 quiet in
    let whole : 1024 * c.args.pitch ≤ c.args.pitch * 2 ^ 10 = omega arith in
    let own : unsigned_abs (pos c.args.pitch) ≤ c.args.pitch = omega arith in
    rw value (scaled_at_most (floor_shift c.args.previous 5) (pos c.args.pitch) 10 1024 c.args.pitch c.args.pitch part own whole)

pub overflow_cast-result-2 : goal.overflow_cast-result-2
overflow_cast-result-2 c = let small = bound c in omega (arith, ints, small, c.requires.pitch)

pub returns : goal.returns
returns c = let small = bound c in let same = value c in rw (← same) (omega (arith, ints, small, c.requires.pitch))
