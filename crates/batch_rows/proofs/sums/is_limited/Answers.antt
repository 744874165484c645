use Rattle.std.proofs.Common.{rules, FitsSigned}
use Rattle.std.specs.Int.{w16}
use Rattle.batch_rows.proofs.Shares.{clamp_within}
use Rattle.batch_rows.proofs.sums.is_limited.Goals as goal

pub returns : goal.returns
returns c =
    let fits : FitsSigned w16 c.args.sum = search rules in
    clamp_within c.args.sum fits
