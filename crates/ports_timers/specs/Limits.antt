-- The limit that several clauses need.
use Rattle.std.specs.Prelude.{ℕ, ◌^◌}

-- each moment of the clock, in cycles of the processor, is below it: twelve days at 1,024,000 a second
abbrev pub clock_limit : ℕ
clock_limit = 2 ^ 40
