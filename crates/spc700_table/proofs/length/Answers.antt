use Rattle.std.proofs.Common.{◌≤◌, ◌+◌, sym, subst, arith}
use Rattle.spc700_table.specs.declared.OpRow.{OpRow}
use Rattle.spc700_table.specs.Opcodes.{operand_bytes}
use Rattle.spc700_table.proofs.Table.{operand_bytes_few}
use Rattle.spc700_table.proofs.length.Goals as goal

pub returns-clause-most : goal.returns-clause-most
returns-clause-most c =
    let few : operand_bytes c.row-row.result.first + operand_bytes c.row-row.result.second ≤ 2 =
    subst (λ (row : OpRow). operand_bytes row.first + operand_bytes row.second ≤ 2) (sym c.row-row.ensures) (operand_bytes_few c.args.op (omega arith)) in
    omega (arith, c.byte_count.ensures.count, c.byte_count-2.ensures.count)
