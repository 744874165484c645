use Rattle.std.proofs.Common.{◌∙◌, ap}
use Rattle.std.proofs.lemmas.Result.{err_from_is_err_and}
use Rattle.cut_form.specs.TextLines.{text_lines}
use Rattle.cut_form.specs.Script.{script_lines}
use Rattle.cut_text.proofs.Growing.{none_before, none_after, said_after, said_after-more, tells_wrong}
use Rattle.cut_text.proofs.Said.{lines_after, lines_reader}
use Rattle.cut_text.proofs.script_reading.read_script.Goals as goal

pub lines-init : goal.lines-init
lines-init c = rw c.new-list.ensures (none_before (script_lines c.args.text.now))

pub lines-preserved : goal.lines-preserved
lines-preserved c =
    c.lines.invariant ∙ ap (said_after lines_after c.lines.list) c.in-Some.ensures.lines
    ∙ said_after-more lines_reader c.lines.list c.add_line.new.self c.in-Some.line.now (text_lines c.in-Some.after.now) c.in_ok-add_line.ensures.added

pub returns-in_err-add_line-clause-wrong : goal.returns-in_err-add_line-clause-wrong
returns-in_err-add_line-clause-wrong c =
    let p = err_from_is_err_and c.from_residual.result c.from_residual.ensures.1 in
    rw (p.1, p.2) (
    tells_wrong lines_reader c.lines.list c.in-Some.line.now (text_lines c.in-Some.after.now) _ _
    (c.lines.invariant ∙ ap (said_after lines_after c.lines.list) c.in-Some.ensures.lines) c.in_err-add_line.ensures.wrong)

pub returns-clause-lines : goal.returns-clause-lines
returns-clause-lines c = c.lines.invariant ∙ ap (said_after lines_after c.lines.list) c.in_default.ensures.none ∙ none_after c.lines.list
