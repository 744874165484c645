use Rattle.std.proofs.Common.{arith}
use Rattle.std.proofs.lemmas.List.{length-map}
use Rattle.cut_form.specs.Checkpoints.{pages_of}
use Rattle.cut_server.proofs.Adding.{newest_is_owned, newest_apart, owners_few, shared_live, saved_added, live_added, free_added, kept_added, memory_added}
use Rattle.cut_server.proofs.table.Table.add.Goals as goal

pub place_all-pages-requires-clause-owned : goal.place_all-pages-requires-clause-owned
place_all-pages-requires-clause-owned g c = rw (c.newest_pages.ensures, c.deref.ensures) (newest_is_owned c.self.invariant.1)

pub place_all-pages-requires-clause-apart : goal.place_all-pages-requires-clause-apart
place_all-pages-requires-clause-apart g c = rw (c.newest_pages.ensures, c.deref.ensures) (newest_apart c.self.invariant.1)

pub place_all-pages-requires-clause-few : goal.place_all-pages-requires-clause-few
place_all-pages-requires-clause-few g c = owners_few c.self.invariant.1

pub place_all-pages-requires-clause-shared : goal.place_all-pages-requires-clause-shared
place_all-pages-requires-clause-shared g c =
    let shared = rw (← c.self.view_is, shared_live c.self.inside.pool c.self.inside.checkpoints.elements.items (pages_of c.args.memory.now)) at c.requires.shared in
    rw (c.newest_pages.ensures, c.deref.ensures) shared

pub invariant_of-self : goal.invariant_of-self
invariant_of-self g c =
    let few = rw (← c.self.view_is) at c.requires.few in
    let placed = rw (c.newest_pages.ensures, c.deref.ensures) at c.place_all-pages.ensures.placed in (
      omega (arith, c.push.ensures.in_place.1, c.self.invariant.0),
      rw c.push.ensures.elements (kept_added c.self.invariant.1 _ c.args.memory.now _ placed c.place_all-pages.ensures.whole (omega (arith, few, length-map c.self.inside.checkpoints.elements.items (λ checkpoint. checkpoint.sample)))),
    )

pub returns-clause-saved : goal.returns-clause-saved
returns-clause-saved g c =
    let placed = c.place_all-pages.ensures.placed in
    let held = memory_added _ _ _ c.args.memory.now _ placed c.place_all-pages.ensures.whole c.place_all-pages.ensures.memory in
    rw (← c.self.view_is, c.push.ensures.elements) (saved_added c.self.invariant.1 _ _ c.args.memory.now _ placed held)

pub returns-clause-live : goal.returns-clause-live
returns-clause-live g c =
    let placed = rw (c.newest_pages.ensures, c.deref.ensures) at c.place_all-pages.ensures.placed in
    rw (← c.self.view_is, c.push.ensures.elements) (live_added c.self.invariant.1 _ c.args.memory.now _ placed c.place_all-pages.ensures.whole)

pub returns-clause-free : goal.returns-clause-free
returns-clause-free g c =
    let placed = rw (c.newest_pages.ensures, c.deref.ensures) at c.place_all-pages.ensures.placed in
    rw (← c.self.view_is) (free_added c.self.inside.pool c.self.inside.checkpoints.elements.items _ c.args.memory.now _ placed c.place_all-pages.ensures.whole)
