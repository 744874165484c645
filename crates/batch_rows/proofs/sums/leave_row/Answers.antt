use Rattle.std.proofs.Common.{sym}
use Rattle.num_fix.specs.SignedWords.{number_at}
use Rattle.batch_rows.proofs.Shares.{no_share_of_silence}
use Rattle.batch_rows.proofs.sums.leave_row.Goals as goal

pub returns : goal.returns
returns c j below = sym (no_share_of_silence (number_at c.args.sums.now j) (number_at c.args.outs.now j) _ (c.requires j below) (c.are_limited.ensures j below))
