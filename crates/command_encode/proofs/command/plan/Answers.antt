use Rattle.std.proofs.Common.{List, ℤ, Ok, Result, sym, ap, subst, ◌∙◌}
use Rattle.command_runner.specs.Conduct.{Plans}
use Rattle.command_runner.specs.Plan.{plan_makes}
use Rattle.wav_form.specs.declared.refusal.WavRefusal.{WavRefusal}
use Rattle.command_encode.specs.Encode.{samples_answer}
use Rattle.command_encode.proofs.command.plan.Goals as goal

pub returns-in-Ok : goal.returns-in-Ok
returns-in-Ok c =
    let read = c.in-Ok.ensures.samples ∙ ap (λ (samples : List ℤ). Ok samples) (sym c.deref.ensures.value) in
    subst (λ (r : Result (List ℤ) WavRefusal). Plans plan_makes (samples_answer c.args.output.now c.args.options r) c.plan_samples.result) (sym read) c.plan_samples.ensures
