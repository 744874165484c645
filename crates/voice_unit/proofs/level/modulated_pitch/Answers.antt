use Rattle.std.proofs.Common.{◌≡◌, ◌≤◌, ◌*◌, ◌^◌, pos, unsigned_abs, arith, rules}
use Rattle.std.proofs.lemmas.Int.{ints, to_z-of_z}
use Rattle.num_fix.specs.Arithmetic.{scaled, floor_shift}
use Rattle.num_fix.proofs.Bounds.{scaled_at_most, floor_shift_bound}
use Rattle.voice_unit.proofs.level.modulated_pitch.Goals as goal

-- the bend is at most the pitch itself
bend_bound : (c : goal.After-from) → unsigned_abs c.scaled-bend.result ≤ c.args.pitch
unfolding floor_shift
bend_bound c =
    let value : c.scaled-bend.result ≡ scaled (floor_shift c.args.previous 5) (pos c.args.pitch) 10 = grind (arith, ints, to_z-of_z) in
    let quiet : unsigned_abs c.args.previous ≤ 1024 * 2 ^ 5 = omega (arith, ints) in
    let part : unsigned_abs (floor_shift c.args.previous 5) ≤ 1024 = floor_shift_bound c.args.previous 5 1024 quiet in
    let whole : 1024 * c.args.pitch ≤ c.args.pitch * 2 ^ 10 = omega arith in
    let own : unsigned_abs (pos c.args.pitch) ≤ c.args.pitch = omega arith in
    rw value (scaled_at_most (floor_shift c.args.previous 5) (pos c.args.pitch) 10 1024 c.args.pitch c.args.pitch part own whole)

pub overflow_cast-result : goal.overflow_cast-result
overflow_cast-result c = let bound = bend_bound c in search (rules, bound)

pub returns-clause-bound : goal.returns-clause-bound
returns-clause-bound c = let bound = bend_bound c in omega (arith, ints)
