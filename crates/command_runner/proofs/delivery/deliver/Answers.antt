use Rattle.std.proofs.Common.{rules, ◌≡◌, ◌+◌, ◌++◌, List, ℕ, [], ◌∙◌, length, subst}
use Rattle.std.specs.Prelude.{None}
use Rattle.std.proofs.lemmas.List.{append-nil}
use Rattle.snd_host.specs.Follows.{Follows, AreWrites}
use Rattle.snd_host.specs.History.{ended_of}
use Rattle.command_runner.specs.OutputCalls.{at_once, DeliversAs}
use Rattle.command_runner.specs.Stream.{pair}
use Rattle.command_runner.proofs.OutputsMade.{report_alone}
use Rattle.command_runner.proofs.delivery.deliver.Goals as goal

pub returns-in-Some : goal.returns-in-Some
returns-in-Some g c =
    let bytes : c.as_slice.result.now ++ [] ≡ c.in-Some.output.bytes.items = append-nil c.as_slice.result.now ∙ search rules in
    let report : c.as_slice-in-Some.result.now ≡ c.args.plan.now.report.items = search rules in
    let n = length (ended_of (g.H.Host.state c.args.host.now).calls) + 2 in
    rw c.in-Some.is
    (subst (λ (l : List ℕ). Follows (DeliversAs at_once n (pair c.in-Some.output.name.now None l []) c.args.plan.now.report.items) (g.H.Host.state c.args.host.now) (g.H.Host.state c.stream.new.host) c.stream.result) bytes
    (subst (λ (l : List ℕ). Follows (DeliversAs at_once n (pair c.in-Some.output.name.now None (c.as_slice.result.now ++ []) []) l) (g.H.Host.state c.args.host.now) (g.H.Host.state c.stream.new.host) c.stream.result) report c.stream.ensures))

pub returns-in-None : goal.returns-in-None
returns-in-None g c =
    let report : c.as_slice-in-None.result.now ≡ c.args.plan.now.report.items = search rules in
    let wrote = subst (λ (l : List ℕ). Follows (AreWrites 0 l) (g.H.Host.state c.args.host.now) (g.H.Host.state c.write_all.new.host) c.write_all.result) report c.write_all.ensures in
    rw c.in-None.is (report_alone (length (ended_of (g.H.Host.state c.args.host.now).calls) + 2) _ _ _ _ wrote)
