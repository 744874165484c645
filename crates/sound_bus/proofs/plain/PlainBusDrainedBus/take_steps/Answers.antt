use Rattle.lock_step.specs.LockStep.{lock_step}
use Rattle.lock_step.specs.LockStepEmits.{lock_step_emits}
use Rattle.lock_step.specs.LockStepLaws.{lock_step-lawful, emits_frames, emits_records}
use Rattle.lock_step.proofs.StepsTaken.{no_steps, one_step_more}
use Rattle.sound_bus.proofs.plain.PlainBusDrainedBus.take_steps.Goals as goal

pub returns-clause-steps : goal.returns-clause-steps
returns-clause-steps g c =
    let chip = g.C.Chip.meaning in
    let cpu = c.args.cpu.now in
    let old = c.args.self.now in
    one_step_more (lock_step chip) lock_step_emits c.args._samples cpu old (lock_step-lawful chip) (emits_frames chip) (emits_records chip) cpu old c.step.new.cpu c.step.new.bus
    (no_steps (lock_step chip) lock_step_emits c.args._samples cpu old) c.requires.more c.step.ensures.does
