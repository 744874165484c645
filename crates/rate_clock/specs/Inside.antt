-- What a clock holds beside its counter, so that a rate is tested without a division.
use Rattle.std.specs.Prelude.{◌≡◌, ℕ, ◌+◌, ◌%◌, ◌<◌, ◌==◌, if◌then◌else◌}
use Rattle.rate_clock.specs.declared.clock.RateClock.TheInside.{Inside}
use Rattle.rate_clock.specs.Counter.{counter_range}

-- what holds of the fields of each clock
pub record IsClock (c : Inside) : Type 0 where
  pub within : c.counter < counter_range
  pub thirds : c.thirds ≡ (c.counter + 1040) % 3
  pub fifths : c.fifths ≡ (c.counter + 536) % 5

-- the fields of the clock with a counter
abbrev pub inside_of : ℕ → Inside
inside_of n = record { counter = n; thirds = (n + 1040) % 3; fifths = (n + 536) % 5 }

pub inside_of-counter : (c : Inside) → IsClock c → inside_of c.counter ≡ c
inside_of-counter c h = rw (← h.thirds, ← h.fifths)

-- the rest by the odd part of a period: the offset shows the odd part
abbrev pub rest_at : (counter offset : ℕ) → ℕ
rest_at counter offset = if offset == 1040 then (counter + 1040) % 3 else if offset == 536 then (counter + 536) % 5 else 0
