use Rattle.std.proofs.Common.{refl}
use Rattle.batch_rows.proofs.bounds.is_echo_apart.Goals as goal

pub returns-then-surely : goal.returns-then-surely
returns-then-surely c = rw (c.is_echo_surely_apart-surely.ensures c.if-surely.true) refl
