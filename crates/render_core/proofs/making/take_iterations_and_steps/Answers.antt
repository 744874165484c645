use Rattle.render_core.proofs.RunAfterWait.{runs_alike-then, runs_alike-steps}
use Rattle.render_core.proofs.making.take_iterations_and_steps.Goals as goal

pub returns-clause-alike : goal.returns-clause-alike
returns-clause-alike g c =
    runs_alike-then c.make_iterations_if_due.ensures.alike
    (runs_alike-steps g.B.Bus.means g.met.B.Bus.lawful c.args.samples g.B.DrainedBus.emits c.args.cpu.now c.take_steps-pause.new.cpu c.make_iterations_if_due.new.bus c.take_steps-pause.new.self c.take_steps-pause.ensures.steps
    g.met.B.DrainedBus.emits_frames g.met.B.DrainedBus.emits_records g.met.B.DrainedBus.beside g.met.B.DrainedBus.counting)
