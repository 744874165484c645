use Rattle.std.proofs.Common.{rules}
use Rattle.command_runner.specs.Plan.{plan_makes}
use Rattle.command_demo.specs.Demo.{demo_answer}
use Rattle.command_runner.proofs.Attempting.{attempts_unread}
use Rattle.command_demo.proofs.command.demo.Goals as goal

pub returns-clause-attempts : goal.returns-clause-attempts
returns-clause-attempts g c =
    attempts_unread plan_makes (demo_answer c.args.number c.args.output.now) (g.H.Host.state c.args.host.now) (g.H.Host.state c.carry_out.new.host)
    c.plan-prepared.result c.carry_out.result _ c.plan-prepared.ensures c.carry_out.ensures (search rules)
