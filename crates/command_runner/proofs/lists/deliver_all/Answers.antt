use Rattle.std.proofs.Common.{rules, ◌≡◌, ℕ, List, subst}
use Rattle.std.proofs.lemmas.Result.{err_from_is_err_and}
use Rattle.snd_host.specs.Follows.{Follows, AreWrites}
use Rattle.command_runner.specs.OutputCalls.{in_turn}
use Rattle.command_runner.proofs.OutputsMade.{then_report, none_reported}
use Rattle.command_runner.proofs.lists.deliver_all.Goals as goal

pub returns-in_err-fill_all : goal.returns-in_err-fill_all
returns-in_err-fill_all g c =
    let p = err_from_is_err_and c.from_residual.result c.from_residual.ensures.1 in
    rw (p.1) (none_reported in_turn _ _ c.args.plan.report.items _ _ _ _ c.in_err-fill_all.ensures)

pub returns : goal.returns
returns g c =
    let report : c.as_slice.result.now ≡ c.args.plan.report.items = search rules in
    then_report in_turn _ _ c.args.plan.report.items _ (g.H.Host.state c.fill_all.new.host) _ _ c.write_all.result c.in_ok-fill_all.ensures
    (subst (λ (l : List ℕ). Follows (AreWrites 0 l) (g.H.Host.state c.fill_all.new.host) (g.H.Host.state c.write_all.new.host) c.write_all.result) report c.write_all.ensures)
