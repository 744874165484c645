use Rattle.std.proofs.Common.{arith}
use Rattle.echo_unit.specs.Cells.{cell_after}
use Rattle.dsp_state.specs.Registers.{echo_regs}
use Rattle.batch_rows.proofs.ByRows.{samples_by_rows}
use Rattle.batch_rows.proofs.InReach.{reach_keeps_apart, bytes_keep_apart, still_keeps_apart}
use Rattle.batch_rows.proofs.laws.batches_by_rows.Goals as goal

pub returns-clause-apart : goal.returns-clause-apart
returns-clause-apart c = samples_by_rows

pub returns-clause-reach : goal.returns-clause-reach
returns-clause-reach c = λ n k s memory few sound clear. samples_by_rows n k s memory (reach_keeps_apart n k s memory few sound clear)

pub returns-clause-still : goal.returns-clause-still
returns-clause-still c = λ n k s memory off. samples_by_rows n k s memory (still_keeps_apart n k s memory off)

pub returns-clause-bytes : goal.returns-clause-bytes
returns-clause-bytes c = λ n k s memory few valid miss.
    samples_by_rows n k s memory (bytes_keep_apart (cell_after s.hidden.echo (echo_regs s.registers)) n k s memory (λ j below. omega arith) few valid miss)
