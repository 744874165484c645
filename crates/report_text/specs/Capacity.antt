-- Bytes with a fixed capacity.
use Rattle.std.specs.Prelude.{ℕ}

-- how many bytes there can be
abbrev pub buffer_capacity : ℕ
buffer_capacity = 131072

-- how many digits a count has at most
abbrev pub max_count_digits : ℕ
max_count_digits = 20
