-- The row of a number that is no opcode.
use Rattle.std.proofs.Common.{◌≡◌, ℕ, ◌/◌, ◌%◌, ◌<◌, ◌≤◌, List, [], length, true, nat_le, slice_index_or, refl, sym, subst, ap, ◌∙◌, inl, inr, arith}
use Rattle.std.specs.List.{range_with_len, list_all}
use Rattle.std.proofs.lemmas.Bool.{cases_lt, leb-true}
use Rattle.std.proofs.lemmas.List.{get_or_past}
use Rattle.spc700_table.specs.declared.Form.TheVariants as F
use Rattle.spc700_table.specs.declared.Kind.TheVariants as K
use Rattle.spc700_table.specs.declared.OpRow.{OpRow}
use Rattle.spc700_table.specs.Cycles.{cycle_map, printed_cycles}
use Rattle.spc700_table.specs.Opcodes.{row_of, columns}
use Rattle.spc700_table.proofs.Below.{list_all_below}
use Rattle.spc700_exec.specs.Operations.{Operation, operation_of}
use Rattle.spc700_exec.proofs.Steady.{IsListed}
use Rattle.spc700_exec.proofs.EveryRow.{rows_suit, rows_are_steady}

-- after the 256 opcodes the list has NOP without cycles
abbrev pub beyond : OpRow
beyond = record { kind = K.Nop; first = F.None; second = F.None; cycles = 0; taken = 0 }

columns_are_short : list_all (λ j. nat_le (length (slice_index_or columns j [])) 16) (range_with_len 0 16) ≡ true
unfolding columns
columns_are_short = refl

map_is_short : length cycle_map ≡ 16
unfolding cycle_map
map_is_short = refl

length-column : (j : ℕ) → j < 16 → length (slice_index_or columns j []) ≤ 16
length-column j below = leb-true _ _ (list_all_below (λ j. nat_le (length (slice_index_or columns j [])) 16) 16 j columns_are_short below)

no_count : (op : ℕ) → 256 ≤ op → printed_cycles op ≡ 0
unfolding printed_cycles
no_count op far = ap (λ (l : List ℕ). slice_index_or l (op % 16) 0) (get_or_past cycle_map (op / 16) [] (omega (arith, map_is_short)))

pub row_of-beyond : (op : ℕ) → 256 ≤ op → row_of op ≡ beyond
unfolding row_of
row_of-beyond op far =
    ap (λ (f : ℕ → OpRow). f (printed_cycles op)) (get_or_past (slice_index_or columns (op % 16) []) (op / 16) _ (omega (arith, length-column (op % 16) (omega arith))))
    ∙ ap (λ (n : ℕ). let row : OpRow = record { kind = K.Nop; first = F.None; second = F.None; cycles = n; taken = n } in row) (no_count op far)

abbrev pub row_operation : OpRow → Operation
row_operation row = operation_of row.kind row.first row.second

-- each number's row keeps what its operation needs
pub IsListed-row_of : (op : ℕ) → IsListed (row_of op) (row_operation (row_of op))
IsListed-row_of op = elim (cases_lt op 256) [
  | inl below ↦ record { suits = rows_suit op below; steady = rows_are_steady op below }
  | inr far ↦ subst (λ (row : OpRow). IsListed row (row_operation row)) (sym (row_of-beyond op far)) (record { suits = refl; steady = refl })
]
