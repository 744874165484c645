use Rattle.render_core.proofs.RunBySteps.{after_run-next, after_run-reached, due-after_run}
use Rattle.render_core.proofs.laws.a_run_ends_with_its_last_sample.Goals as goal

pub returns-clause-step : goal.returns-clause-step
returns-clause-step g c = λ samples w more. after_run-next g.B.Bus.means g.met.B.Bus.lawful samples w more

pub returns-clause-end_reached : goal.returns-clause-end_reached
returns-clause-end_reached g c = λ samples w all. after_run-reached g.B.Bus.means g.met.B.Bus.lawful samples w all

pub returns-clause-due : goal.returns-clause-due
returns-clause-due g c = λ samples w few. due-after_run g.B.Bus.means g.met.B.Bus.lawful samples w few
