use Rattle.std.proofs.Common.{sym}
use Rattle.std.proofs.lemmas.List.{append-nil}
use Rattle.batch_rows.proofs.NoRecords.{none_in_mask}
use Rattle.batch_rows.proofs.records.push_records.Goals as goal

pub returns-then-mask-eq0-clause-records : goal.returns-then-mask-eq0-clause-records
returns-then-mask-eq0-clause-records c =
    rw (c.if-mask-eq0.true, none_in_mask c.args.sample 0 c.args.answers.now) (sym (append-nil c.args.records.now))
