-- The data of the code against the table of accesses, by one computation.
use Rattle.std.proofs.Common.{◌≡◌, ℕ, ◌<◌, refl, ap, ◌∙◌, slice_index_or, arith}
use Rattle.std.specs.Prelude.{map}
use Rattle.std.specs.List.{range_with_len}
use Rattle.std.proofs.lemmas.List.FromFn.{get_or-map-range_with_len}
use Rattle.spc700_table.specs.Cycles.{cycle_map, printed_cycles}
use Rattle.spc700_table.specs.Opcodes.{row_of, columns}
use Rattle.spc700_exec.specs.declared.access_counts.TheConstants.{ACCESS_COUNTS}
use Rattle.spc700_exec.specs.Pieces.{access_count}

abbrev count_of : ℕ → ℕ
count_of op = access_count (row_of op)

counts_are : ACCESS_COUNTS ≡ map count_of (range_with_len 0 256)
unfolding row_of columns printed_cycles cycle_map
counts_are = refl

pub count_at : (d op : ℕ) → op < 256 → slice_index_or ACCESS_COUNTS op d ≡ access_count (row_of op)
count_at d op below = ap (λ counts. slice_index_or counts op d) counts_are ∙ get_or-map-range_with_len count_of 0 256 op op d below (omega arith)
