use Rattle.std.proofs.Common.{◌∙◌, ℕ, List, subst}
use Rattle.std.proofs.lemmas.Result.{err_from_is_err_and}
use Rattle.snd_host.specs.Follows.{Follows, AreWrites}
use Rattle.command_runner.specs.OutputCalls.{at_once}
use Rattle.command_runner.proofs.OutputsMade.{then_report, none_reported}
use Rattle.command_runner.proofs.streaming.stream.Goals as goal

pub returns-in_err-fill_outputs : goal.returns-in_err-fill_outputs
returns-in_err-fill_outputs g c =
    let p = err_from_is_err_and c.from_residual.result c.from_residual.ensures.1 in
    rw (p.1) (none_reported at_once _ _ (g.P.Pieces.report c.args.source.now) _ _ _ _ c.in_err-fill_outputs.ensures.calls)

pub returns : goal.returns
returns g c =
    then_report at_once _ _ (g.P.Pieces.report c.args.source.now) _ (g.H.Host.state c.fill_outputs.new.host) _ _ c.write_all.result c.in_ok-fill_outputs.ensures.calls
    (subst (λ (l : List ℕ). Follows (AreWrites 0 l) (g.H.Host.state c.fill_outputs.new.host) (g.H.Host.state c.write_all.new.host) c.write_all.result) (c.report.ensures ∙ c.in_ok-fill_outputs.ensures.report) c.write_all.ensures)
