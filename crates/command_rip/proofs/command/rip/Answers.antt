use Rattle.std.proofs.Common.{Some, Err, rules, refl}
use Rattle.command_runner.specs.NamedInputs.{Held, first}
use Rattle.command_runner.specs.Listed.{list_makes}
use Rattle.command_runner.specs.declared.refusals.Refusal.TheVariants.{OutOfMemory}
use Rattle.sample_rip.specs.Entries.{max_entries}
use Rattle.command_runner.proofs.Flags.{can_deliver_all_still}
use Rattle.command_runner.proofs.Attempting.{attempts, attempts_no_usage, carries_same}
use Rattle.input_files.specs.Inputs.{file_in, spc_input}
use Rattle.input_files.proofs.Readings.{reads_declined, reads_plan}
use Rattle.command_rip.specs.Pieces.{to_come_of}
use Rattle.command_rip.specs.Rip.{file_answer, rip_answer}
use Rattle.command_rip.proofs.Planless.{not_carried, plans_nothing}
use Rattle.command_rip.proofs.command.rip.Goals as goal

pub returns-in-Err-clause-attempts : goal.returns-in-Err-clause-attempts
returns-in-Err-clause-attempts g c =
    let x = g.H.Host.state c.args.host.now in
    let y = g.H.Host.state c.read_file.new.host in
    attempts (list_makes to_come_of) (λ (held : Held). rip_answer c.args.prefix.now c.args.range (first held)) x y y (Err c.in-Err.refusal) (Some c.in-Err.refusal) _
    (reads_declined (list_makes to_come_of) file_in (λ (held : Held). file_answer c.args.prefix.now c.args.range) x y c.in-Err.refusal c.in-Err.ensures)
    (not_carried c.in-Err.refusal y) refl

pub returns-in_default-clause-attempts : goal.returns-in_default-clause-attempts
returns-in_default-clause-attempts g c =
    let x = g.H.Host.state c.args.host.now in
    let y = g.H.Host.state c.read_file.new.host in
    attempts (list_makes to_come_of) (λ (held : Held). rip_answer c.args.prefix.now c.args.range (first held)) x y y (Err OutOfMemory) (Some OutOfMemory) _
    (reads_plan (list_makes to_come_of) file_in (file_answer c.args.prefix.now c.args.range) x y c.in-Ok.file (Err OutOfMemory) c.in-Ok.ensures (plans_nothing (file_answer c.args.prefix.now c.args.range c.in-Ok.file)))
    (not_carried OutOfMemory y) refl

pub returns-clause-attempts : goal.returns-clause-attempts
returns-clause-attempts g c =
    let x = g.H.Host.state c.args.host.now in
    let y = g.H.Host.state c.read_file.new.host in
    attempts (list_makes to_come_of) (λ (held : Held). rip_answer c.args.prefix.now c.args.range (first held)) x y (g.H.Host.state c.carry_all.new.host) c.plan_file-planned.result c.carry_all.result _
    (reads_plan (list_makes to_come_of) file_in (file_answer c.args.prefix.now c.args.range) x y c.in-Ok.file c.plan_file-planned.result c.in-Ok.ensures c.plan_file-planned.ensures.plans)
    (carries_same (list_makes to_come_of) c.plan_file-planned.result _ _ _ _ c.carry_all.ensures (search rules)) (search rules)

pub returns-in-Err-clause-not_usage : goal.returns-in-Err-clause-not_usage
returns-in-Err-clause-not_usage g c = λ usage.
    let x = g.H.Host.state c.args.host.now in
    let y = g.H.Host.state c.read_file.new.host in
    attempts_no_usage (list_makes to_come_of) (λ (held : Held). rip_answer c.args.prefix.now c.args.range (first held)) x y y (Err c.in-Err.refusal) (Some c.in-Err.refusal) (Some c.in-Err.refusal)
    (reads_declined {input = spc_input c.args.input.now} (list_makes to_come_of) file_in (λ (held : Held). file_answer c.args.prefix.now c.args.range) x y c.in-Err.refusal c.in-Err.ensures)
    (not_carried c.in-Err.refusal y) refl usage

pub carry_all-requires : goal.carry_all-requires
carry_all-requires g c =
    let x = g.H.Host.state c.args.host.now in
    let y = g.H.Host.state c.read_file.new.host in
    let can = can_deliver_all_still (list_makes to_come_of) (λ (held : Held). rip_answer c.args.prefix.now c.args.range (first held)) x y c.plan_file-planned.result
    (reads_plan {input = spc_input c.args.input.now} (list_makes to_come_of) file_in (file_answer c.args.prefix.now c.args.range) x y c.in-Ok.file c.plan_file-planned.result c.in-Ok.ensures c.plan_file-planned.ensures.plans) max_entries c.requires in
    search (rules, can)

pub returns-clause-not_usage : goal.returns-clause-not_usage
returns-clause-not_usage g c = λ usage.
    let x = g.H.Host.state c.args.host.now in
    let y = g.H.Host.state c.read_file.new.host in
    attempts_no_usage (list_makes to_come_of) (λ (held : Held). rip_answer c.args.prefix.now c.args.range (first held)) x y (g.H.Host.state c.carry_all.new.host) c.plan_file-planned.result c.carry_all.result c.carry_all.result
    (reads_plan {input = spc_input c.args.input.now} (list_makes to_come_of) file_in (file_answer c.args.prefix.now c.args.range) x y c.in-Ok.file c.plan_file-planned.result c.in-Ok.ensures c.plan_file-planned.ensures.plans)
    (carries_same (list_makes to_come_of) c.plan_file-planned.result _ _ _ _ c.carry_all.ensures (search rules)) refl (search rules)
