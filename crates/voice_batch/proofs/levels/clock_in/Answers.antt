use Rattle.std.proofs.Common.{◌≡◌, ◌+◌, arith}
use Rattle.voice_batch.proofs.levels.clock_in.Goals as goal

pub returns-then-at-eq0 : goal.returns-then-at-eq0
returns-then-at-eq0 c k is = let none : k + c.args.at ≡ k = omega arith in rw none is
