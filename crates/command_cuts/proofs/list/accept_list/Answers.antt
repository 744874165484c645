use Rattle.cut_form.specs.CutList.{cut_list}
use Rattle.exit_status.specs.declared.cause.Cause.TheVariants.{CutList}
use Rattle.input_files.proofs.Readings.{accepts_value, declines_input}
use Rattle.command_cuts.specs.Lists.{list_refusal}
use Rattle.command_cuts.proofs.list.accept_list.Goals as goal

pub returns-in-Ok : goal.returns-in-Ok
returns-in-Ok c = accepts_value list_refusal (cut_list c.args.bytes.now) c.in-Ok.cuts c.in-Ok.ensures.cuts

pub returns-in-Err-Wrong : goal.returns-in-Err-Wrong
returns-in-Err-Wrong c = record {
  ok = tt;
  err = declines_input CutList (cut_list c.args.bytes.now) c.in-Err-Wrong.line (rw c.in-Err-Wrong.field-0-is at c.in-Err-Wrong.ensures.wrong);
}
