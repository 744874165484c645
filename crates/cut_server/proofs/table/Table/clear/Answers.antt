use Rattle.std.proofs.Common.{arith, ap, length}
use Rattle.cut_server.specs.Table.{live_checkpoints}
use Rattle.cut_server.proofs.RoomForOne.{length-without_entry}
use Rattle.cut_server.proofs.table.Table.clear.Goals as goal

pub checkpoints-smaller : goal.checkpoints-smaller
checkpoints-smaller g c =
    omega (arith, ap length c.remove.ensures.live, length-without_entry (live_checkpoints c.checkpoints.self) 0 (omega (arith, c.checkpoints-test.true, c.len.ensures.live)))
