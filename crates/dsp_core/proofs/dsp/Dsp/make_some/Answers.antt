use Rattle.std.proofs.Common.{sym}
use Rattle.std.proofs.lemmas.List.{append-nil}
use Rattle.batch_rows.proofs.NoRecords.{no_records}
use Rattle.dsp_core.proofs.dsp.Dsp.make_some.Goals as goal

pub returns-then-rows-gt0-clause-made : goal.returns-then-rows-gt0-clause-made
returns-then-rows-gt0-clause-made c = record {
  state_made = c.make_rows.ensures.made.state_made;
  memory_made = c.make_rows.ensures.made.memory_made;
  frames_made = c.make_rows.ensures.made.frames_made;
  records_made = rw (c.if-outputs-eq0.true, no_records) (sym (append-nil c.args.outputs.now.records.now));
}
