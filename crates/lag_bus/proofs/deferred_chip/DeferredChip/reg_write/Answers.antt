use Rattle.std.proofs.Common.{arith}
use Rattle.lag_bus.proofs.ChangesOfHeld.{late_reg_write, held_reg_write}
use Rattle.lag_bus.proofs.deferred_chip.DeferredChip.reg_write.Goals as goal

pub renew-requires : goal.renew-requires
renew-requires g c = c.self.invariant.1.kept

pub invariant_of-self : goal.invariant_of-self
invariant_of-self g c = (
  rw (c.reg_write.ensures.state, c.reg_write.ensures.sample, c.reg_write.ensures.batches, c.reg_write.ensures.total)
      (held_reg_write g.met.C.Chip.lawful c.self.invariant.0 c.args.address c.args.value (omega arith) (omega arith)),
  c.renew.ensures _,
)

pub returns : goal.returns
returns g c = rw (c.reg_write.ensures.state, c.reg_write.ensures.sample, c.reg_write.ensures.batches, c.reg_write.ensures.total, ← c.self.view_is) (late_reg_write g.met.C.Chip.lawful c.self.invariant.0 c.args.address c.args.value (rw (← c.self.view_is) at c.requires))
