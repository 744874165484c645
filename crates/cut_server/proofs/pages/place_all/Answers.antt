use Rattle.std.proofs.Common.{◌≡◌, ◌∙◌, ap, ◌<◌, arith, length, take, [], refl, Some}
use Rattle.std.proofs.lemmas.List.{take_all, length-take-le, length-set}
use Rattle.cut_form.specs.Checkpoints.{pages_of}
use Rattle.cut_server.proofs.Shared.{length-pages_of}
use Rattle.cut_server.proofs.Placing.{placed_none, placed_owned, placed_room, placed_shared, placed_step, placed_set}
use Rattle.cut_server.proofs.pages.place_all.Goals as goal

pub place-first-requires-clause-owned : goal.place-first-requires-clause-owned
place-first-requires-clause-owned c = placed_owned _ _ _ (pages_of c.args.memory.now) [] (placed_none c.args.pool.now c.args.newest.now (pages_of c.args.memory.now)) (omega arith) c.requires.owned

pub place-first-requires-clause-shared : goal.place-first-requires-clause-shared
place-first-requires-clause-shared c =
    placed_shared _ _ _ _ [] _ (placed_none c.args.pool.now c.args.newest.now (pages_of c.args.memory.now)) (omega (arith, length-pages_of c.args.memory.now)) c.requires.owned c.requires.shared

pub place-first-requires-clause-free : goal.place-first-requires-clause-free
place-first-requires-clause-free c = λ own.
    let nothing = placed_none c.args.pool.now c.args.newest.now (pages_of c.args.memory.now) in
    let within : 0 < length (pages_of c.args.memory.now) = omega (arith, length-pages_of c.args.memory.now) in
    placed_room _ _ _ _ [] nothing within c.requires.owned (rw c.requires.shared at c.requires.free)
    (placed_shared _ _ _ _ [] _ nothing within c.requires.owned c.requires.shared ∙ ap Some own)

pub loop-page-init : goal.loop-page-init
loop-page-init c = (
  refl,
  placed_step _ _ _ _ _ [] _ (placed_none c.args.pool.now c.args.newest.now (pages_of c.args.memory.now)) (omega (arith, length-pages_of c.args.memory.now)) c.requires.owned c.requires.apart c.requires.few c.place-first.ensures.placed,
)

pub place-requires-clause-owned : goal.place-requires-clause-owned
place-requires-clause-owned c =
    placed_owned _ _ _ _ _ c.loop-page.invariant.1 (omega (arith, length-take-le c.loop-page.page c.loop-page.pages (omega (arith, c.loop-page.invariant.0)))) c.requires.owned

pub place-requires-clause-shared : goal.place-requires-clause-shared
place-requires-clause-shared c =
    let size : length (take c.loop-page.page c.loop-page.pages) ≡ c.loop-page.page = length-take-le c.loop-page.page c.loop-page.pages (omega (arith, c.loop-page.invariant.0)) in
    rw size at (placed_shared _ _ _ _ _ _ c.loop-page.invariant.1 (omega (arith, size, length-pages_of c.args.memory.now)) c.requires.owned c.requires.shared)

pub place-requires-clause-free : goal.place-requires-clause-free
place-requires-clause-free c = λ own.
    let size : length (take c.loop-page.page c.loop-page.pages) ≡ c.loop-page.page = length-take-le c.loop-page.page c.loop-page.pages (omega (arith, c.loop-page.invariant.0)) in
    let within : length (take c.loop-page.page c.loop-page.pages) < length (pages_of c.args.memory.now) = omega (arith, size, length-pages_of c.args.memory.now) in
    placed_room _ _ _ _ _ c.loop-page.invariant.1 within c.requires.owned (rw c.requires.shared at c.requires.free)
    (placed_shared _ _ _ _ _ _ c.loop-page.invariant.1 within c.requires.owned c.requires.shared ∙ ap Some (rw size own))

pub loop-page-preserved : goal.loop-page-preserved
loop-page-preserved c = (
  rw length-set c.loop-page.invariant.0,
  placed_set _ _ _ _ _ c.loop-page.pages c.loop-page.page _ c.loop-page.invariant.1 c.loop-page.invariant.0 (length-pages_of c.args.memory.now) c.loop-page-test.true c.requires.owned c.requires.apart c.requires.few c.place.ensures.placed,
)

pub returns-clause-placed : goal.returns-clause-placed
returns-clause-placed c =
    let whole : take c.loop-page.page c.loop-page.pages ≡ c.loop-page.pages = take_all c.loop-page.page c.loop-page.pages (omega (arith, c.loop-page.invariant.0)) in
    rw whole at c.loop-page.invariant.1
