-- Blocks that are cached, by their header, their digits and the two samples before one of their four groups.
use Rattle.std.specs.Prelude.{◌≡◌, ℕ, zero, suc, ◌+◌, ◌*◌, ◌/◌, ◌%◌, ◌^◌, ◌<◌, ◌≤◌, ℤ, List, ◌++◌, take, drop}
use Rattle.num_fix.specs.SignedWords.{number_at}
use Rattle.brr_decode.specs.Kept.{EndsWith, with_group}

-- byte k of the eight bytes of digits of a block, which stand side by side in one number, the first in the low bits
abbrev pub byte_of : (digits : ℕ) → (k : ℕ) → ℕ
byte_of digits k = digits / 2 ^ (8 * k) % 0x100

-- samples, and after them the kept samples of so many groups of a block, from one of its four on
unfoldable pub with_groups : List ℤ → (header digits group : ℕ) → (groups : ℕ) → List ℤ
with_groups samples header digits group zero = samples
with_groups samples header digits group (suc d) =
    with_group (with_groups samples header digits group d) header (byte_of digits (2 * (group + d))) (byte_of digits (2 * (group + d) + 1))

-- the numbers of a row after two samples and the groups before are the kept samples of a group, after any samples that end as those before it
abbrev pub IsGroupAt : (header digits : ℕ) → (row : List ℤ) → (group : ℕ) → Type 0
IsGroupAt header digits row group =
    (samples : List ℤ) → EndsWith samples (number_at row (4 * group)) (number_at row (4 * group + 1))
    → with_group samples header (byte_of digits (2 * group)) (byte_of digits (2 * group + 1)) ≡ samples ++ take 4 (drop (4 * group + 2) row)

-- a row has the groups of a block from one of them on
abbrev pub IsBlockOf : (header digits from : ℕ) → (row : List ℤ) → Type 0
IsBlockOf header digits from row = (group : ℕ) → from ≤ group → group < 4 → IsGroupAt header digits row group
