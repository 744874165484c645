-- Which entries of the directory are ripped (own): those that the registers SRCN of the eight voices name, and those of a range.
use Rattle.std.specs.Prelude.{ℕ, ◌+◌, ◌*◌, ◌==◌, ◌||◌, ◌&&◌, Bool, false, List, map, slice_index, Option, Some, None, nat_le}
use Rattle.std.specs.List.{range_with_len, list_any}

-- the entries of a directory
abbrev pub max_entries : ℕ
max_entries = 256

-- the register SRCN of a voice names the entry
abbrev pub is_source : (registers : List ℕ) → (entry : ℕ) → Bool
is_source registers entry = list_any (λ v. slice_index registers (0x10 * v + 4) == entry) (range_with_len 0 8)

-- a range from a first to a last entry has the entry
abbrev pub is_in_range : Option (ℕ × ℕ) → (entry : ℕ) → Bool
is_in_range None entry = false
is_in_range (Some (first, last)) entry = nat_le first entry && nat_le entry last

abbrev pub is_wanted : (registers : List ℕ) → Option (ℕ × ℕ) → (entry : ℕ) → Bool
is_wanted registers range entry = is_source registers entry || is_in_range range entry

-- of each of the 256 entries, whether it is ripped
abbrev pub wanted_entries : (registers : List ℕ) → Option (ℕ × ℕ) → List Bool
wanted_entries registers range = map (is_wanted registers range) (range_with_len 0 max_entries)
