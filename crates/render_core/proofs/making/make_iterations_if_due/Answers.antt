use Rattle.render_core.proofs.RunAfterWait.{runs_alike-wait, clock-wait}
use Rattle.render_core.proofs.making.make_iterations_if_due.Goals as goal

pub returns-then-is_over-clause-alike : goal.returns-then-is_over-clause-alike
returns-then-is_over-clause-alike g c =
    runs_alike-wait g.B.Bus.means g.met.B.Bus.lawful c.args.samples g.B.DrainedBus.emits c.args.cpu.now c.args.bus.now c.wait.new.self c.wait.ensures g.met.B.DrainedBus.emits_frames g.met.B.DrainedBus.emits_records g.met.B.DrainedBus.beside

pub returns-then-is_over-clause-later : goal.returns-then-is_over-clause-later
returns-then-is_over-clause-later g c =
    clock-wait g.B.Bus.means g.met.B.Bus.lawful c.args.samples g.B.DrainedBus.emits c.args.cpu.now c.args.bus.now c.wait.new.self c.wait.ensures g.B.DrainedBus.emits.frames g.met.B.DrainedBus.emits_frames
