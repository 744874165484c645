use Rattle.std.proofs.Common.{rules, refl}
use Rattle.command_info.specs.Info.{info_answer}
use Rattle.command_runner.specs.NamedInputs.{Held, first}
use Rattle.command_runner.specs.Plan.{plan_makes}
use Rattle.command_runner.proofs.Flags.{can_deliver_still}
use Rattle.command_runner.proofs.Attempting.{attempts, attempts_no_usage, carries_same}
use Rattle.command_info.proofs.command.info.Goals as goal

pub carry_out-requires : goal.carry_out-requires
carry_out-requires g c = can_deliver_still plan_makes (λ (held : Held). info_answer (first held)) _ _ c.prepare-prepared.result c.prepare-prepared.ensures c.requires

pub returns-clause-attempts : goal.returns-clause-attempts
returns-clause-attempts g c =
    attempts plan_makes (λ (held : Held). info_answer (first held)) (g.H.Host.state c.args.host.now) (g.H.Host.state c.prepare-prepared.new.host) (g.H.Host.state c.carry_out.new.host)
    c.prepare-prepared.result c.carry_out.result _ c.prepare-prepared.ensures (carries_same plan_makes c.prepare-prepared.result _ _ _ _ c.carry_out.ensures (search rules)) (search rules)

pub returns-clause-not_usage : goal.returns-clause-not_usage
returns-clause-not_usage g c = λ usage.
    attempts_no_usage plan_makes (λ (held : Held). info_answer (first held)) (g.H.Host.state c.args.host.now) (g.H.Host.state c.prepare-prepared.new.host) (g.H.Host.state c.carry_out.new.host)
    c.prepare-prepared.result c.carry_out.result c.carry_out.result c.prepare-prepared.ensures (carries_same plan_makes c.prepare-prepared.result _ _ _ _ c.carry_out.ensures (search rules)) refl (search rules)
