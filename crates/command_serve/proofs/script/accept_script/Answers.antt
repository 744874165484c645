use Rattle.cut_form.specs.Script.{script_lines}
use Rattle.exit_status.specs.declared.cause.Cause.TheVariants.{Script}
use Rattle.input_files.proofs.Readings.{accepts_value, declines_input}
use Rattle.command_serve.specs.Scripts.{script_refusal}
use Rattle.command_serve.proofs.script.accept_script.Goals as goal

pub returns-in-Ok : goal.returns-in-Ok
returns-in-Ok c = accepts_value script_refusal (script_lines c.args.bytes.now) c.in-Ok.lines c.in-Ok.ensures.lines

pub returns-in-Err-Wrong : goal.returns-in-Err-Wrong
returns-in-Err-Wrong c = record {
  ok = tt;
  err = declines_input Script (script_lines c.args.bytes.now) c.in-Err-Wrong.line (rw c.in-Err-Wrong.field-0-is at c.in-Err-Wrong.ensures.wrong);
}
