use Rattle.std.proofs.Common.{List, ℕ, Err, Ok, ◌++◌, subst}
use Rattle.std.specs.Prelude.{codes, decimal}
use Rattle.std.proofs.lemmas.Result.{err_from_is_err_and}
use Rattle.snd_host.specs.Follows.{AreWrites, Follows}
use Rattle.text_form.specs.Digits.{four_digits}
use Rattle.command_runner.proofs.Writing.{line_failed, line_then}
use Rattle.exit_status.proofs.lines.note_code_length.Goals as goal

pub returns-in_err-note_number : goal.returns-in_err-note_number
returns-in_err-note_number g c =
    let p = err_from_is_err_and c.from_residual.result c.from_residual.ensures.1 in
    let head : List ℕ = codes "spcwave: " ++ decimal c.args.length ++ codes " bytes do not fit at " in
    rw (p.1) (line_failed (head ++ four_digits c.args.origin) (codes "\n") _ _ _ (line_failed head (four_digits c.args.origin) _ _ _ c.in_err-note_number.ensures))

pub returns-in_err-write_all : goal.returns-in_err-write_all
returns-in_err-write_all g c =
    let p = err_from_is_err_and c.from_residual-in_err-write_all.result c.from_residual-in_err-write_all.ensures.1 in
    let head : List ℕ = codes "spcwave: " ++ decimal c.args.length ++ codes " bytes do not fit at " in
    let digits = subst (λ (l : List ℕ). Follows (AreWrites 1 l) (g.H.Host.state c.note_number.new.host) (g.H.Host.state c.write_all.new.host) (Err c.in_err-write_all.field-0.0)) c.four_digits.ensures c.in_err-write_all.ensures in
    rw (p.1) (line_failed (head ++ four_digits c.args.origin) (codes "\n") _ _ _ (line_then head (four_digits c.args.origin) _ _ _ _ _ c.in_ok-note_number.ensures digits))

pub returns : goal.returns
returns g c =
    let head : List ℕ = codes "spcwave: " ++ decimal c.args.length ++ codes " bytes do not fit at " in
    let digits = subst (λ (l : List ℕ). Follows (AreWrites 1 l) (g.H.Host.state c.note_number.new.host) (g.H.Host.state c.write_all.new.host) (Ok c.in_ok-write_all.field-0)) c.four_digits.ensures c.in_ok-write_all.ensures in
    line_then (head ++ four_digits c.args.origin) (codes "\n") _ _ _ _ _ (line_then head (four_digits c.args.origin) _ _ _ _ _ c.in_ok-note_number.ensures digits) c.write_all-2.ensures
