use Rattle.std.proofs.Common.{ℕ, ◌∙◌, arith}
use Rattle.num_fix.specs.declared.Frame.{Frame}
use Rattle.echo_unit.specs.Echo.{feedback_pair}
use Rattle.echo_unit.specs.EchoOverBatch.{pair_of, sent_of}
use Rattle.echo_unit.proofs.RunByRows.{with_cells-rows}
use Rattle.echo_unit.proofs.echo.Echo.put_back.Goals as goal

pub returns : goal.returns
returns c =
    let words : ℕ → Frame = λ j. feedback_pair (sent_of c.args.sums.now j) (pair_of c.args.heard.now.left c.args.heard.now.right j) c.args.regs.now.efb in
    c.write_cells.ensures
    ∙ with_cells-rows c.args.self.now c.args.regs.now (pair_of c.feedback_row-left.result c.feedback_row-right.result) words c.args.memory.now c.args.n
    (λ j below k. record { left = c.feedback_row-left.ensures j (omega (arith, below)) k; right = c.feedback_row-right.ensures j (omega (arith, below)) k })
