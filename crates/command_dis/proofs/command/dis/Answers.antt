use Rattle.std.proofs.Common.{rules}
use Rattle.command_runner.specs.NamedInputs.{Held, first}
use Rattle.command_runner.specs.Plan.{plan_makes}
use Rattle.command_runner.proofs.Flags.{can_deliver_still}
use Rattle.command_runner.proofs.Attempting.{attempts, attempts_no_usage}
use Rattle.command_dis.specs.Dis.{dis_answer}
use Rattle.command_dis.proofs.command.dis.Goals as goal

pub carry_out-requires : goal.carry_out-requires
carry_out-requires g c = can_deliver_still plan_makes (λ (held : Held). dis_answer c.args.origin c.args.output.now (first held)) _ _ c.prepare-prepared.result c.prepare-prepared.ensures c.requires

pub returns-clause-attempts : goal.returns-clause-attempts
returns-clause-attempts g c =
    attempts plan_makes (λ (held : Held). dis_answer c.args.origin c.args.output.now (first held)) (g.H.Host.state c.args.host.now) (g.H.Host.state c.prepare-prepared.new.host) (g.H.Host.state c.carry_out.new.host)
    c.prepare-prepared.result c.carry_out.result _ c.prepare-prepared.ensures c.carry_out.ensures (search rules)

pub returns-clause-not_usage : goal.returns-clause-not_usage
returns-clause-not_usage g c =
    attempts_no_usage plan_makes (λ (held : Held). dis_answer c.args.origin c.args.output.now (first held)) (g.H.Host.state c.args.host.now) (g.H.Host.state c.prepare-prepared.new.host) (g.H.Host.state c.carry_out.new.host)
    c.prepare-prepared.result c.carry_out.result _ c.prepare-prepared.ensures c.carry_out.ensures (search rules)
