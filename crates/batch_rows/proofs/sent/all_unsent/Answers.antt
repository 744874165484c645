use Rattle.std.proofs.Common.{rules, ◌≡◌, length}
use Rattle.dsp_state.specs.Volumes.{no_volumes}
use Rattle.batch_rows.proofs.AllSent.{eight_unsent}
use Rattle.batch_rows.proofs.sent.all_unsent.Goals as goal

pub returns : goal.returns
returns c =
    let eight : length c.args.volumes.now ≡ 8 = search rules in
    let one_by_one = eight_unsent c.args.volumes.now no_volumes eight in
    rw one_by_one (search rules)
