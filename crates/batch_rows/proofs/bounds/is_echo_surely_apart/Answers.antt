use Rattle.batch_rows.proofs.BoundingPages.{still_apart}
use Rattle.batch_rows.proofs.bounds.is_echo_surely_apart.Goals as goal

pub returns-then-still : goal.returns-then-still
returns-then-still c is_so = still_apart c.args.state.now c.args.memory.now (c.is_still-still.ensures c.if-still.true)
