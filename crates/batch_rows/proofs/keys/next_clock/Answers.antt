use Rattle.std.proofs.Common.{◌≡◌, suc, ◌+◌, arith}
use Rattle.batch_rows.proofs.keys.next_clock.Goals as goal

pub returns : goal.returns
returns c n is = let next : n + 1 ≡ suc n = omega arith in rw next at (c.after_samples.ensures.after n is)
