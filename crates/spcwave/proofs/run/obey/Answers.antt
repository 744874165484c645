use Rattle.command_runner.proofs.Attempting.{attempts_usage}
use Rattle.spcwave.proofs.run.obey.Goals as goal

pub returns-in-Usage-clause-attempts : goal.returns-in-Usage-clause-attempts
returns-in-Usage-clause-attempts g c = rw c.in-Usage.is (attempts_usage (g.H.Host.state c.args.host.now))

pub returns-in-Render-clause-attempts : goal.returns-in-Render-clause-attempts
returns-in-Render-clause-attempts g c = rw c.in-Render.is c.render.ensures.attempts

pub returns-in-Demo-clause-attempts : goal.returns-in-Demo-clause-attempts
returns-in-Demo-clause-attempts g c = rw c.in-Demo.is c.demo.ensures.attempts

pub returns-in-Check-clause-attempts : goal.returns-in-Check-clause-attempts
returns-in-Check-clause-attempts g c = rw c.in-Check.is c.check.ensures.attempts
