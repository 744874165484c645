use Rattle.std.proofs.Common.{arith}
use Rattle.cut_server.proofs.Memories.{within_checkpoints}
use Rattle.cut_server.proofs.Dropping.{apart_read, IsDropping, saved_dropped, live_dropped, kept_dropped}
use Rattle.cut_server.proofs.table.Table.remove.Goals as goal

dropping : (g : _) (c : goal.After-give_all g) → IsDropping c.self.inside.pool c.give_all.new.pool c.self.inside.checkpoints.elements.items c.args.place c.remove-checkpoint.result
dropping g c = record {
  kept = c.self.invariant.1;
  within = within_checkpoints c.self.inside.checkpoints.elements.items c.args.place (rw (← c.self.view_is) at c.requires);
  read = c.remove-checkpoint.ensures.element;
  given = c.give_all.ensures;
}

pub give_all-requires-clause-apart : goal.give_all-requires-clause-apart
give_all-requires-clause-apart g c =
    apart_read c.self.inside.checkpoints.elements.items c.args.place c.remove-checkpoint.result c.self.invariant.1.runs (within_checkpoints c.self.inside.checkpoints.elements.items c.args.place (rw (← c.self.view_is) at c.requires)) c.remove-checkpoint.ensures.element

pub invariant_of-self : goal.invariant_of-self
invariant_of-self g c = (omega (arith, c.remove-checkpoint.ensures.in_place.1, c.self.invariant.0), rw c.remove-checkpoint.ensures.elements (kept_dropped (dropping g c)))

pub returns-clause-saved : goal.returns-clause-saved
returns-clause-saved g c = rw (← c.self.view_is, c.remove-checkpoint.ensures.elements) (saved_dropped (dropping g c))

pub returns-clause-live : goal.returns-clause-live
returns-clause-live g c = rw (← c.self.view_is, c.remove-checkpoint.ensures.elements) (live_dropped (dropping g c))
