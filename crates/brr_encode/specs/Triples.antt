-- The headers that a block may have, and the order in which they are preferred: by what they cost, then by their filter, then by
-- their shift.
use Rattle.std.specs.Prelude.{◌≡◌, ◌⊎◌, ℕ, ◌<◌, ◌≤◌, List, ℤ, Bool, false, if◌then◌else◌}
use Rattle.brr_decode.specs.Header.{filter_of, shift_of, has_loop, has_end}
use Rattle.brr_encode.specs.Greedy.{greedy_squares}

pub record Triple : Type 0 where
  pub squares : ℕ
  pub filter : ℕ
  pub shift : ℕ

-- a triple is at most another one
abbrev pub IsUpTo : (a b : Triple) → Type 0
IsUpTo a b =
    (a.squares < b.squares)
    ⊎ ((a.squares ≡ b.squares) × ((a.filter < b.filter) ⊎ ((a.filter ≡ b.filter) × (a.shift ≤ b.shift))))

-- the first block has filter 0 alone, each other one all four
abbrev pub filter_count : (first : Bool) → ℕ
filter_count first = if first then 1 else 4

-- a header that a block may have, as a decoder reads it: one of its filters, a shift of at most 12, and neither the loop bit nor
-- the end bit, which are added after the choice
pub record IsAllowedHeader (first : Bool) (header : ℕ) : Type 0 where
  pub filter : filter_of header < filter_count first
  pub shift : shift_of header ≤ 12
  pub no_loop : has_loop header ≡ false
  pub no_end : has_end header ≡ false

-- what a header costs with its greedy digits, its filter and its shift
abbrev pub triple_of : (header : ℕ) → (p1 p2 : ℤ) → (targets : List ℤ) → Triple
triple_of header p1 p2 targets =
    record { squares = greedy_squares header p1 p2 targets; filter = filter_of header; shift = shift_of header }
