-- The cycle map of the SPC700 (Anomie's SPC700 Doc, the cycles of the instruction list).
use Rattle.std.specs.Prelude.{ℕ, ◌/◌, ◌%◌, List, [], ◌∷◌, slice_index_or}

-- row by row by the high digit of the opcode, with the columns by its low digit from left to right: of a branch with a
-- condition the count of the taken branch; 0 where the processor halts
unfoldable pub cycle_map : List (List ℕ)
cycle_map =
    (2 ∷ 8 ∷ 4 ∷ 7 ∷ 3 ∷ 4 ∷ 3 ∷ 6 ∷ 2 ∷ 6 ∷ 5 ∷ 4 ∷ 5 ∷ 4 ∷ 6 ∷ 8 ∷ []) ∷
    (4 ∷ 8 ∷ 4 ∷ 7 ∷ 4 ∷ 5 ∷ 5 ∷ 6 ∷ 5 ∷ 5 ∷ 6 ∷ 5 ∷ 2 ∷ 2 ∷ 4 ∷ 6 ∷ []) ∷
    (2 ∷ 8 ∷ 4 ∷ 7 ∷ 3 ∷ 4 ∷ 3 ∷ 6 ∷ 2 ∷ 6 ∷ 5 ∷ 4 ∷ 5 ∷ 4 ∷ 7 ∷ 4 ∷ []) ∷
    (4 ∷ 8 ∷ 4 ∷ 7 ∷ 4 ∷ 5 ∷ 5 ∷ 6 ∷ 5 ∷ 5 ∷ 6 ∷ 5 ∷ 2 ∷ 2 ∷ 3 ∷ 8 ∷ []) ∷
    (2 ∷ 8 ∷ 4 ∷ 7 ∷ 3 ∷ 4 ∷ 3 ∷ 6 ∷ 2 ∷ 6 ∷ 4 ∷ 4 ∷ 5 ∷ 4 ∷ 6 ∷ 6 ∷ []) ∷
    (4 ∷ 8 ∷ 4 ∷ 7 ∷ 4 ∷ 5 ∷ 5 ∷ 6 ∷ 5 ∷ 5 ∷ 4 ∷ 5 ∷ 2 ∷ 2 ∷ 4 ∷ 3 ∷ []) ∷
    (2 ∷ 8 ∷ 4 ∷ 7 ∷ 3 ∷ 4 ∷ 3 ∷ 6 ∷ 2 ∷ 6 ∷ 4 ∷ 4 ∷ 5 ∷ 4 ∷ 7 ∷ 5 ∷ []) ∷
    (4 ∷ 8 ∷ 4 ∷ 7 ∷ 4 ∷ 5 ∷ 5 ∷ 6 ∷ 5 ∷ 5 ∷ 5 ∷ 5 ∷ 2 ∷ 2 ∷ 3 ∷ 6 ∷ []) ∷
    (2 ∷ 8 ∷ 4 ∷ 7 ∷ 3 ∷ 4 ∷ 3 ∷ 6 ∷ 2 ∷ 6 ∷ 5 ∷ 4 ∷ 5 ∷ 2 ∷ 4 ∷ 5 ∷ []) ∷
    (4 ∷ 8 ∷ 4 ∷ 7 ∷ 4 ∷ 5 ∷ 5 ∷ 6 ∷ 5 ∷ 5 ∷ 5 ∷ 5 ∷ 2 ∷ 2 ∷ 12 ∷ 5 ∷ []) ∷
    (3 ∷ 8 ∷ 4 ∷ 7 ∷ 3 ∷ 4 ∷ 3 ∷ 6 ∷ 2 ∷ 6 ∷ 4 ∷ 4 ∷ 5 ∷ 2 ∷ 4 ∷ 4 ∷ []) ∷
    (4 ∷ 8 ∷ 4 ∷ 7 ∷ 4 ∷ 5 ∷ 5 ∷ 6 ∷ 5 ∷ 5 ∷ 5 ∷ 5 ∷ 2 ∷ 2 ∷ 3 ∷ 4 ∷ []) ∷
    (3 ∷ 8 ∷ 4 ∷ 7 ∷ 4 ∷ 5 ∷ 4 ∷ 7 ∷ 2 ∷ 5 ∷ 6 ∷ 4 ∷ 5 ∷ 2 ∷ 4 ∷ 9 ∷ []) ∷
    (4 ∷ 8 ∷ 4 ∷ 7 ∷ 5 ∷ 6 ∷ 6 ∷ 7 ∷ 4 ∷ 5 ∷ 5 ∷ 5 ∷ 2 ∷ 2 ∷ 8 ∷ 3 ∷ []) ∷
    (2 ∷ 8 ∷ 4 ∷ 7 ∷ 3 ∷ 4 ∷ 3 ∷ 6 ∷ 2 ∷ 4 ∷ 5 ∷ 3 ∷ 4 ∷ 3 ∷ 4 ∷ 0 ∷ []) ∷
    (4 ∷ 8 ∷ 4 ∷ 7 ∷ 4 ∷ 5 ∷ 5 ∷ 6 ∷ 3 ∷ 4 ∷ 5 ∷ 4 ∷ 2 ∷ 2 ∷ 6 ∷ 0 ∷ []) ∷
    []

-- the count that is printed for an opcode
unfoldable pub printed_cycles : ℕ → ℕ
printed_cycles opcode = slice_index_or (slice_index_or cycle_map (opcode / 16) []) (opcode % 16) 0
