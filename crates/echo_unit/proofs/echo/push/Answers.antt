use Rattle.std.proofs.Common.{◌≡◌, ◌+◌, length, rules}
use Rattle.echo_unit.proofs.History.{with_newest-turned}
use Rattle.echo_unit.proofs.echo.push.Goals as goal

pub returns : goal.returns
returns c =
    let eight : length c.args.history.now ≡ 7 + 1 = search rules in
    rw c.rotate_left.ensures.after (with_newest-turned c.args.history.now 7 c.args.pair eight)
