use Rattle.std.proofs.Common.{◌∙◌, sym}
use Rattle.lag_bus.proofs.ChangesOfHeld.{late_chip, late_due}
use Rattle.lag_bus.proofs.deferred_chip.DeferredChip.save.Goals as goal

pub returns : goal.returns
returns g c =
    let none = rw (← c.self.view_is) at c.requires in
    c.save.ensures ∙ (rw (← c.self.view_is) (λ i. g.C.Chip.saving.saved (sym (late_chip g.met.C.Chip.lawful c.self.invariant.0 none) i) (sym (late_due g.met.C.Chip.lawful c.self.invariant.0 none) i)))
