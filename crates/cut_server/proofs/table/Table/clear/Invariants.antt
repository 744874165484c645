use Rattle.std.proofs.Common.{◌≡◌, length}
use Rattle.cut_server.specs.Table.{live_checkpoints}
use Rattle.cut_server.proofs.table.Table.clear.Given as goal

abbrev pub invariant-checkpoints : goal.invariant-checkpoints
invariant-checkpoints g l = length l.self.pool ≡ length l.initial.self.pool

abbrev pub decreases-checkpoints : goal.decreases-checkpoints
decreases-checkpoints g l = length (live_checkpoints l.self)
