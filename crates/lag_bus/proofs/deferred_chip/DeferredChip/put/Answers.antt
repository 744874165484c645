use Rattle.lag_bus.proofs.ChangesOfHeld.{late_put, late_put_reach, held_put, known_put}
use Rattle.lag_bus.proofs.deferred_chip.DeferredChip.put.Goals as goal

pub invariant_of-self : goal.invariant_of-self
invariant_of-self g c = (
  held_put g.met.C.Chip.lawful c.self.invariant.0 c.put.new.self,
  rw c.put.ensures
      (known_put g.met.C.Chip.lawful c.self.invariant.0 g.C.Chip.written_pages c.args.at c.args.value c.before_write.new.self c.before_write.ensures.known c.before_write.ensures.any),
)

pub returns-then-self-eq0-clause-memory : goal.returns-then-self-eq0-clause-memory
returns-then-self-eq0-clause-memory g c = rw (c.put.ensures, ← c.self.view_is) (late_put g.met.C.Chip.lawful c.self.invariant.0 c.args.at c.args.value (rw (← c.self.view_is) at c.requires))

pub returns-then-self-eq0-clause-reach : goal.returns-then-self-eq0-clause-reach
returns-then-self-eq0-clause-reach g c = λ none. late_put_reach g.met.C.Chip.lawful c.self.invariant.0 c.put.new.self c.if-self-eq0.true
