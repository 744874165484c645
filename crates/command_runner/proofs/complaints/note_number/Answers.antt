use Rattle.std.proofs.Common.{rules, ◌≡◌, ◌++◌, List, ℕ, Ok, Err, subst}
use Rattle.std.specs.Prelude.{decimal}
use Rattle.std.proofs.lemmas.Result.{err_from_is_err_and}
use Rattle.snd_host.specs.Follows.{AreWrites, Follows}
use Rattle.command_runner.proofs.Writing.{line_failed, line_then}
use Rattle.command_runner.proofs.complaints.note_number.Goals as goal

pub returns-in_err-write_all-2 : goal.returns-in_err-write_all-2
returns-in_err-write_all-2 g c =
    let p = err_from_is_err_and c.from_residual-in_err-write_all-2.result c.from_residual-in_err-write_all-2.ensures.1 in
    let text : c.as_bytes.result.now ≡ decimal c.args.number = search rules in
    let number = subst (λ (l : List ℕ). Follows (AreWrites 1 l) (g.H.Host.state c.write_all.new.host) (g.H.Host.state c.write_all-2.new.host) (Err c.in_err-write_all-2.field-0.0)) text c.in_err-write_all-2.ensures in
    rw (p.1) (line_failed (c.args.head.now ++ decimal c.args.number) c.args.tail.now _ _ _ (line_then c.args.head.now (decimal c.args.number) _ _ _ _ _ c.in_ok-write_all.ensures number))

pub returns : goal.returns
returns g c =
    let text : c.as_bytes.result.now ≡ decimal c.args.number = search rules in
    let number = subst (λ (l : List ℕ). Follows (AreWrites 1 l) (g.H.Host.state c.write_all.new.host) (g.H.Host.state c.write_all-2.new.host) (Ok c.in_ok-write_all-2.field-0)) text c.in_ok-write_all-2.ensures in
    line_then (c.args.head.now ++ decimal c.args.number) c.args.tail.now _ _ _ _ _ (line_then c.args.head.now (decimal c.args.number) _ _ _ _ _ c.in_ok-write_all.ensures number) c.write_all-3.ensures

pub returns-in_err-write_all : goal.returns-in_err-write_all
returns-in_err-write_all g c =
    let p = err_from_is_err_and c.from_residual.result c.from_residual.ensures.1 in
    rw (p.1) (line_failed (c.args.head.now ++ decimal c.args.number) c.args.tail.now _ _ _ (line_failed c.args.head.now (decimal c.args.number) _ _ _ c.in_err-write_all.ensures))
