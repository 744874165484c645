use Rattle.std.proofs.Common.{◌∙◌, sym, ap, List, ℕ, ◌++◌, get_or}
use Rattle.brr_encode.specs.declared.report.BlockReport.{BlockReport}
use Rattle.command_encode.specs.Encode.{block_line}
use Rattle.command_encode.proofs.BlockLines.{block_lines_to}
use Rattle.command_encode.proofs.command.report.Goals as goal

pub loop-place-preserved : goal.loop-place-preserved
loop-place-preserved c =
    let blocks = c.args.blocks.now in
    let place = c.loop-place.place in
    let none : BlockReport = record { header = 0; worst = 0; squares = 0 } in
    c.in_ok-put_block.ensures
    ∙ ap (λ (l : List ℕ). l ++ block_line place (get_or blocks place none)) c.loop-place.invariant
    ∙ sym (block_lines_to blocks place none c.loop-place-test.true)
