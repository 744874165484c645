use Rattle.std.proofs.Common.{◌≡◌, false, true, refl, sym, ap, ◌∙◌, rules, Some}
use Rattle.idle_loops.specs.ReadOnly.{Peek}
use Rattle.idle_loops.proofs.Trials.{peek_of_script-step}
use Rattle.idle_loops.proofs.trial.try_step.Goals as goal

pub returns-then-not-cpu-clause-step : goal.returns-then-not-cpu-clause-step
returns-then-not-cpu-clause-step g c =
    let idle : c.step.new.bus.idle ≡ true = sym (ap (λ (t : Peek g.row.L.Denot). t.idle) c.trial.view_is) ∙ c.if-trial.true in
    let runs : c.step.new.cpu.halted ≡ false = search rules in
    peek_of_script-step g.L.ReadOnlyBus.sees c.args.cpu.now c.step.new.cpu _ c.step.new.bus c.step.ensures.does refl idle runs
    ∙ (λ i. Some (c.step.new.cpu, (sym c.trial.view_is i).clock))
