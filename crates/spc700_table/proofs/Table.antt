-- The data of the code against the opcode map and the cycle map, by one computation over the table.
use Rattle.std.proofs.Common.{◌≡◌, ℕ, ◌+◌, ◌<◌, ◌≤◌, Bool, true, refl, ap, ◌∙◌, slice_index_or, nat_le, arith}
use Rattle.std.specs.Prelude.{map}
use Rattle.std.specs.List.{range_with_len, list_all}
use Rattle.std.proofs.lemmas.List.FromFn.{get_or-map-range_with_len}
use Rattle.std.proofs.lemmas.Bool.{leb-true}
use Rattle.spc700_table.specs.declared.rows.TheConstants.{ROWS}
use Rattle.spc700_table.specs.declared.OpRow.{OpRow}
use Rattle.spc700_table.specs.Cycles.{cycle_map, printed_cycles}
use Rattle.spc700_table.specs.Opcodes.{row_of, columns, operand_bytes}
use Rattle.spc700_table.proofs.Below.{list_all_below}

rows_are : ROWS ≡ map row_of (range_with_len 0 256)
unfolding row_of columns printed_cycles cycle_map
rows_are = refl

pub row_at : (d : OpRow) (opcode : ℕ) → opcode < 256 → slice_index_or ROWS opcode d ≡ row_of opcode
row_at d opcode below = ap (λ rows. slice_index_or rows opcode d) rows_are ∙ get_or-map-range_with_len row_of 0 256 opcode opcode d below (omega arith)

abbrev is_short : ℕ → Bool
is_short opcode = nat_le (operand_bytes (row_of opcode).first + operand_bytes (row_of opcode).second) 2

all_short : list_all is_short (range_with_len 0 256) ≡ true
unfolding row_of columns printed_cycles cycle_map
all_short = refl

-- no instruction has more than two operand bytes
pub operand_bytes_few : (opcode : ℕ) → opcode < 256 → operand_bytes (row_of opcode).first + operand_bytes (row_of opcode).second ≤ 2
operand_bytes_few opcode below = leb-true _ _ (list_all_below is_short 256 opcode all_short below)
