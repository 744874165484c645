use Rattle.std.proofs.lemmas.Result.{err_from_is_err_and}
use Rattle.command_runner.proofs.Flags.{open_yet}
use Rattle.command_runner.proofs.OutputsMade.{first_not_ended, both_ended}
use Rattle.command_runner.proofs.streaming.end_in_turn.Goals as goal

pub finish-requires-2-clause-open_yet : goal.finish-requires-2-clause-open_yet
finish-requires-2-clause-open_yet g c = open_yet c.args.earlier.0 c.args.later.0 _ _ c.requires.earlier_created c.requires.later_created c.requires.apart c.in_ok-finish.ensures.made c.requires.later_open

pub returns-in_err-finish : goal.returns-in_err-finish
returns-in_err-finish g c =
    let p = err_from_is_err_and c.from_residual.result c.from_residual.ensures.1 in
    rw (p.1) (first_not_ended c.args.earlier.0 c.args.later.0 _ _ _ c.in_err-finish.ensures.made)

pub returns : goal.returns
returns g c = both_ended c.args.earlier.0 c.args.later.0 _ (g.H.Host.state c.finish.new.self) _ c.finish-2.result c.in_ok-finish.ensures.made c.finish-2.ensures.made
