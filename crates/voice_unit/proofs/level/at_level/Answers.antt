use Rattle.std.proofs.Common.{◌≡◌, ◌≤◌, pos, unsigned_abs, arith, lit≤}
use Rattle.std.proofs.lemmas.Int.{ints, to_z-of_z}
use Rattle.num_fix.specs.Arithmetic.{scaled}
use Rattle.num_fix.proofs.Bounds.{scaled_at_most}
use Rattle.voice_unit.proofs.level.at_level.Goals as goal

value : (c : goal.After-scaled) → c.scaled.result ≡ scaled c.args.sample (pos c.args.level) 11
value c = grind (arith, ints, to_z-of_z)

bound : (c : goal.After-scaled) → unsigned_abs c.scaled.result ≤ 32752
bound c = rw value (scaled_at_most c.args.sample (pos c.args.level) 11 32768 2047 32752 (omega (arith, ints)) (omega arith) (lit≤ tt))

pub overflow_cast-result : goal.overflow_cast-result
overflow_cast-result c = let small = bound c in omega (arith, ints)

pub returns : goal.returns
returns c = let small = bound c in let same = value c in rw (← same) (omega (arith, ints))
