use Rattle.std.proofs.Common.{sym}
use Rattle.num_fix.specs.SignedWords.{number_at}
use Rattle.batch_rows.proofs.Shares.{no_share}
use Rattle.batch_rows.proofs.sums.add_row_at_volume_0.Goals as goal

pub returns : goal.returns
returns c j below = sym (no_share (number_at c.args.sums.now j) (number_at c.args.outs.now j) (c.are_limited.ensures j below))
