use Rattle.lock_step.specs.LockStep.{lock_step}
use Rattle.lock_step.specs.LockStepEmits.{lock_step_emits}
use Rattle.lock_step.proofs.NoWait.{no_wait}
use Rattle.sound_bus.proofs.plain.PlainBusDrainedBus.wait.Goals as goal

pub returns : goal.returns
returns g c = no_wait (lock_step g.C.Chip.meaning) lock_step_emits c.args._samples c.args._cpu.now c.args.self.now c.requires.more
