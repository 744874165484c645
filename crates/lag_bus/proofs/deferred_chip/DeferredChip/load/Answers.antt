use Rattle.std.proofs.Common.{◌≤◌, arith}
use Rattle.chip_form.specs.Limits.{max_samples_of_chip}
use Rattle.lag_bus.proofs.ChangesOfHeld.{held_loaded, late_loaded}
use Rattle.lag_bus.proofs.deferred_chip.DeferredChip.load.Goals as goal

pub invariant_of-self : goal.invariant_of-self
invariant_of-self g c =
    let few : g.C.Chip.sample c.load.new.self ≤ max_samples_of_chip = omega (arith, c.load.ensures.sample, c.requires.number) in (
      rw (c.load.ensures.batches, c.load.ensures.total)
          (held_loaded g.met.C.Chip.lawful c.self.invariant.0 (g.C.Chip.state c.load.new.self) (g.C.Chip.sample c.load.new.self) c.copy_from.new.self
          (rw (← c.self.view_is) at c.requires.pending) (rw (← c.self.view_is) at c.requires.frames) (rw (← c.self.view_is) at c.requires.records) c.load.ensures.is_valid few),
      c.none-self-inside.ensures _,
    )

pub returns : goal.returns
returns g c =
    rw (c.load.ensures.state, c.load.ensures.sample, c.load.ensures.batches, c.load.ensures.total, c.copy_from.ensures, ← c.self.view_is)
    (late_loaded g.met.C.Chip.lawful c.self.invariant.0 (λ s. g.C.Chip.saving.loaded s c.args.saved.now) (g.C.Chip.saving.number c.args.saved.now) c.args.memory.now
    (rw (← c.self.view_is) at c.requires.pending) (rw (← c.self.view_is) at c.requires.frames) (rw (← c.self.view_is) at c.requires.records))
