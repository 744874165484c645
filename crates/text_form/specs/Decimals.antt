-- Numbers that a text writes in decimal digits, without a sign.
use Rattle.std.specs.Prelude.{ℕ, ◌+◌, ◌-◌, ◌*◌, List, fold, length, Bool, ◌&&◌, nat_lt, nat_le}
use Rattle.std.specs.List.{list_all}
use Rattle.std.specs.Char.{is_ascii_digit}

-- the number that digits write, the highest first
abbrev pub decimal_value : (digits : List ℕ) → ℕ
decimal_value digits = fold (λ value digit. 10 * value + (digit - 0x30)) 0 digits

-- the text is one decimal digit or more, and at most so many
abbrev pub is_number : (most : ℕ) → (text : List ℕ) → Bool
is_number most text = nat_lt 0 (length text) && (nat_le (length text) most && list_all is_ascii_digit text)
