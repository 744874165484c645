use Rattle.cut_server.proofs.Giving.{given_more}
use Rattle.cut_server.proofs.pages.give_all.Goals as goal

pub loop-slot-preserved : goal.loop-slot-preserved
loop-slot-preserved c = given_more _ _ _ _ _ _ c.loop-slot.invariant c.loop-slot-test.true c.slot-item.is c.requires.apart c.requires.owned c.give.ensures
