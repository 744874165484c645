-- The table of straight lines, which weighs the middle two samples by their distance and the outer two by nothing.
use Rattle.std.specs.Prelude.{ℕ, ◌+◌, ◌-◌, ◌*◌, List, ℤ, pos, nat_lt, if◌then◌else◌, map}
use Rattle.std.specs.List.{range_with_len}

-- entry i: 0 in the lower half, 8j + 4 at 256 + j
abbrev pub straight_weight : ℕ → ℤ
straight_weight i = pos (if nat_lt i 256 then 0 else 8 * (i - 256) + 4)

-- all 512 entries
abbrev pub straight_table : List ℤ
straight_table = map straight_weight (range_with_len 0 512)
