use Rattle.std.proofs.Common.{take}
use Rattle.cut_server.specs.Placing.{AreGiven}
use Rattle.cut_server.proofs.pages.give_all.Given as goal

abbrev pub invariant-loop-slot : goal.invariant-loop-slot
invariant-loop-slot l = AreGiven l.initial.pool l.pool (take l.slot-index l.slots)
