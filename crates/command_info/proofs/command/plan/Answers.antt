use Rattle.std.proofs.Common.{ap, sym, ◌∙◌, List, [], ℕ, length}
use Rattle.command_runner.specs.Answer.{Answer, done}
use Rattle.command_runner.specs.Plan.{plan_makes}
use Rattle.command_info.specs.Info.{info_report}
use Rattle.input_files.specs.Reading.{answer_from}
use Rattle.exit_status.specs.declared.cause.Cause.{Cause}
use Rattle.command_info.proofs.command.plan.Goals as goal

pub returns : goal.returns
returns c =
    let known : List ℕ → Answer Cause = λ file. done [] (info_report (length c.args.bytes.now) file) in
    let made : List ℕ → Answer Cause = λ report. done [] report in
    record {
      ok = ap (λ given. answer_from given known) c.in_ok-file.ensures.ok ∙ ap made (sym c.in_ok-report.ensures);
      err = tt;
      no_usage = λ wrong. absurd (cc);
      no_read = λ wrong. absurd (cc);
      no_write = λ wrong. absurd (cc);
    }
