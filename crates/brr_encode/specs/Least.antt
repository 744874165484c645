-- The first place at which a number is least.
use Rattle.std.specs.Prelude.{ℕ, zero, suc, ◌<◌, ◌≤◌, nat_lt, if◌then◌else◌}

-- of the places 0 to n - 1, the first at which f is least
unfoldable pub least_place : (f : ℕ → ℕ) → (n : ℕ) → ℕ
least_place f zero = 0
least_place f (suc n) = if nat_lt (f n) (f (least_place f n)) then n else least_place f n

-- No place below n has a smaller number, and each place before this one has a greater one.
pub record IsFirstLeast (f : ℕ → ℕ) (n place : ℕ) : Type 0 where
  pub within : place < n
  pub least : (other : ℕ) → other < n → f place ≤ f other
  pub first : (before : ℕ) → before < place → f place < f before
