use Rattle.std.proofs.Common.{arith, ap, sym, ◌∙◌, length}
use Rattle.cut_server.specs.Table.{live_checkpoints}
use Rattle.cut_server.proofs.RoomForOne.{length-without_entry, makes_more}
use Rattle.cut_server.proofs.table.Table.make_room.Goals as goal

pub checkpoints-smaller : goal.checkpoints-smaller
checkpoints-smaller g c =
    omega (arith, ap length c.remove.ensures.live, length-without_entry (live_checkpoints c.checkpoints.self) 1 (omega (arith, c.checkpoints-test.true, c.len.ensures.live)))

pub checkpoints-preserved : goal.checkpoints-preserved
checkpoints-preserved g c =
    makes_more c.checkpoints.invariant c.remove.new.self (omega (arith, c.checkpoints-test.true, c.len.ensures.live)) (sym c.has_room_for_one.ensures ∙ c.if-not-has_room_for_one.true) c.remove.ensures.saved c.remove.ensures.live c.remove.ensures.size
