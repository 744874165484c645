-- What four samples give under weights that are fractions, as eight bytes.
use Rattle.std.specs.Prelude.{ℕ, ◌+◌, ◌*◌, ℤ, slice_index}
use Rattle.std.specs.Int.{w16, cast_signed}
use Rattle.gauss_table.specs.Interpolation.{mix_of}
use Rattle.gauss_table.specs.declared.short_taps.ShortTaps.{ShortTaps}

-- the 16 bits of tap k of four, oldest first: two bytes, the low one first
abbrev pub bits_of_tap : ShortTaps → (k : ℕ) → ℕ
bits_of_tap taps k = slice_index taps.bytes (2 * k) + 256 * slice_index taps.bytes (2 * k + 1)

-- tap k of four
abbrev pub short_tap : ShortTaps → (k : ℕ) → ℤ
short_tap taps k = cast_signed w16 (bits_of_tap taps k)

-- what comes of the four
abbrev pub short_mix : ShortTaps → ℤ
short_mix taps = mix_of (short_tap taps 0) (short_tap taps 1) (short_tap taps 2) (short_tap taps 3)
