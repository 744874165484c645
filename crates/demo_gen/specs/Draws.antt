-- The bytes that are drawn: a linear congruential sequence of 32 bits, of which each state gives its high byte
-- (the constants are those of Numerical Recipes; that the high byte is taken is own).
use Rattle.std.specs.Prelude.{ℕ, zero, suc, ◌+◌, ◌*◌, ◌/◌, ◌%◌, ◌^◌, List, [], ◌++◌}

abbrev pub next_state : ℕ → ℕ
next_state s = (s * 1664525 + 1013904223) % 2 ^ 32

-- the state after some draws
unfoldable pub state_after : (draws s : ℕ) → ℕ
state_after zero s = s
state_after (suc n) s = next_state (state_after n s)

-- the byte that a state gives
abbrev pub drawn_byte : ℕ → ℕ
drawn_byte s = s / 0x1000000

-- of the draws from the state s on, the one after k others
abbrev pub draw : (s k : ℕ) → ℕ
draw s k = drawn_byte (state_after (suc k) s)

-- the lists f 0, f 1, f 2 and so on, one after another
unfoldable pub joined : (count : ℕ) → (f : ℕ → List ℕ) → List ℕ
joined zero f = []
joined (suc n) f = joined n f ++ f n
