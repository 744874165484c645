use Rattle.std.proofs.Common.{length}
use Rattle.cut_form.specs.Checkpoints.{pages_of}
use Rattle.cut_server.specs.Table.{live_checkpoints}
use Rattle.cut_server.proofs.RoomForOne.{MakesRoom}
use Rattle.cut_server.proofs.table.Table.make_room.Given as goal

abbrev pub invariant-checkpoints : goal.invariant-checkpoints
invariant-checkpoints g l = MakesRoom (pages_of l.memory) l.before l.initial.self l.self

abbrev pub decreases-checkpoints : goal.decreases-checkpoints
decreases-checkpoints g l = length (live_checkpoints l.self)
