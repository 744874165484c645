use Rattle.std.proofs.Common.{◌≡◌, ◌++◌, ◌∷◌, [], rules}
use Rattle.lag_bus.proofs.ChangesOfHeld.{late_emit, late_event}
use Rattle.lag_bus.proofs.deferred_chip.DeferredChip.emit.Goals as goal

pub returns-then-self-eq0 : goal.returns-then-self-eq0
returns-then-self-eq0 g c = rw (c.push.ensures, ← c.self.view_is) (late_emit g.met.C.Chip.lawful c.self.invariant.0 c.args.item c.if-self-eq0.true)

pub returns-else-self-eq0 : goal.returns-else-self-eq0
returns-else-self-eq0 g c =
    let ring : c.try_push.new.self ≡ c.self.inside.ring ++ c.args.item ∷ [] = search rules in
    rw (ring, ← c.self.view_is) (late_event g.met.C.Chip.lawful c.self.invariant.0 c.args.item c.if-self-eq0.false (rw (← c.self.view_is) at c.requires.number))
