use Rattle.std.proofs.Common.{◌≡◌, ◌∙◌, sym, ap, false}
use Rattle.cut_form.specs.Checkpoints.{stands_at}
use Rattle.cut_server.specs.Table.{live_checkpoints}
use Rattle.cut_server.proofs.RoomForOne.{none_left}
use Rattle.cut_server.proofs.server.CutServer.mark.Goals as goal

none_here : (g : _) (c : goal.After-checkpoint-arg-1 g) → stands_at (live_checkpoints c.args.self.now.table) c.args.self.now.standing.samples ≡ false
none_here g c =
    let here : c.args.self.now.standing.samples ≡ c.self.inside.position = ap (λ s. s.standing.samples) (sym c.self.view_is) ∙ c.self.invariant.served.position in
    rw here (sym c.has.ensures ∙ c.if-has.false)

pub checkpoint-requires-clause-none_here : goal.checkpoint-requires-clause-none_here
checkpoint-requires-clause-none_here g c =
    rw (ap (λ b. b.position) c.make_room-gave.ensures.book) (none_left _ _ _ _ _ _ _ c.make_room-gave.ensures.room (none_here g c))
