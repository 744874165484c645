use Rattle.std.proofs.Common.{◌-◌, ◌∙◌, ap, arith, length}
use Rattle.cut_form.specs.Marks.{room_made}
use Rattle.cut_server.specs.Table.{live_checkpoints}
use Rattle.cut_server.proofs.Renders.{pages_here}
use Rattle.cut_server.proofs.OnTheRun.{tune_less}
use Rattle.cut_server.proofs.Serving.{serving_less}
use Rattle.cut_server.proofs.server.CutServer.make_room.Goals as goal

pub invariant_of-self : goal.invariant_of-self
invariant_of-self g c = serving_less c.self.invariant _ 1 _ (omega arith) c.make_room.ensures.saved

pub returns-clause-tune : goal.returns-clause-tune
returns-clause-tune g c = rw (← c.self.view_is) (tune_less c.self.invariant.served _ 1 _ (omega arith) c.make_room.ensures.saved c.make_room.ensures.size)

pub returns-clause-room : goal.returns-clause-room
returns-clause-room g c =
    let live = live_checkpoints c.self.inside.table in
    rw (← c.self.view_is)
    (c.make_room.ensures.room ∙ ap (λ pages. room_made (length live - 1) (length c.self.inside.table.pool) pages (record { live = live; gave = 0 })) (pages_here c.self.invariant c.memory.result.now c.memory.ensures))
