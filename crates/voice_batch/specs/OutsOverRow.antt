-- The outputs of a span of samples, over a row of kept samples or over noise.
use Rattle.std.specs.Prelude.{◌≡◌, ℕ, ◌<◌, ◌*◌, Bool, List, ℤ, pos, Option, Some, None, slice_get, if◌then◌else◌}
use Rattle.num_fix.specs.Arithmetic.{scaled, wrap16, clear_bit0}
use Rattle.num_fix.specs.SignedWords.{number_at}
use Rattle.gauss_table.specs.Factors.{factor_of}
use Rattle.gauss_table.specs.Interpolation.{mix_of}
use Rattle.gauss_table.specs.ShortTaps.{short_mix}
use Rattle.gauss_table.specs.declared.short_taps.ShortTaps.{ShortTaps}
use Rattle.gauss_table.specs.declared.taps.Taps.{Taps}
use Rattle.voice_unit.specs.Voice.{interpolation}
use Rattle.voice_batch.specs.declared.short_sounding.TheConstants.{AT_ONCE}

-- the interpolation that comes of four taps; of none, 0
abbrev pub mixed : Option Taps → ℤ
mixed (Some t) = mix_of t.oldest t.older t.newer t.newest
mixed None = pos 0

-- that of sample j of a row of taps
abbrev pub mixed_at : List Taps → (j : ℕ) → ℤ
mixed_at taps j = mixed (slice_get taps j)

-- the interpolation that comes of four short taps; of none, 0
abbrev pub short_mixed : Option ShortTaps → ℤ
short_mixed (Some t) = short_mix t
short_mixed None = pos 0

-- that of sample j of a row of short taps
abbrev pub short_mixed_at : List ShortTaps → (j : ℕ) → ℤ
short_mixed_at taps j = short_mixed (slice_get taps j)

-- a sample at a level
abbrev pub sounding_at : (level : ℕ) → (sample : ℤ) → ℤ
sounding_at level sample = clear_bit0 (scaled sample (pos level) 11)

-- what a sample that stands so far in a row of kept samples puts out at a level
abbrev pub out_over_row : (table row : List ℤ) → (phase level : ℕ) → ℤ
out_over_row table row phase level = sounding_at level (interpolation table row phase)

-- what a sample of a span puts out: noise at a level where the voice plays that, else what stands in the row
abbrev pub out_in_span : (noisy : Bool) → (noise : ℕ) → (table row : List ℤ) → (phase level : ℕ) → ℤ
out_in_span noisy noise table row phase level =
    if noisy then sounding_at level (wrap16 (pos (2 * noise))) else out_over_row table row phase level

-- each number of a row, as many as are put at once, is the factor of a level
abbrev pub AreFactorsOfLevel : (level : ℕ) → List ℤ → Type 0
AreFactorsOfLevel level factors = (i : ℕ) → i < AT_ONCE → number_at factors i ≡ factor_of (pos level)
