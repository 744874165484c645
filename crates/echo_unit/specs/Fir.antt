-- The FIR filter of the echo, over the last eight samples of a side, oldest first. C0 meets the oldest and C7 the newest.
use Rattle.std.specs.Prelude.{ℕ, List, [], ◌∷◌, drop, take, fold, ℤ, pos, ◌+ℤ◌}
use Rattle.num_fix.specs.Arithmetic.{scaled, wrap16, clamp16, clear_bit0, sign8}
use Rattle.num_fix.specs.SignedWords.{number_at}

-- what each sample gives: its product with its coefficient, over 64
abbrev pub taps : (samples : List ℤ) → (coefficients : List ℕ) → List ℤ
taps (sample ∷ samples) (coefficient ∷ coefficients) = scaled sample (sign8 coefficient) 6 ∷ taps samples coefficients
taps (sample ∷ samples) [] = []
taps [] coefficients = []

-- the sum of signed numbers
abbrev pub signed_sum : List ℤ → ℤ
signed_sum numbers = fold (λ sum number. sum +ℤ number) (pos 0) numbers

-- The sum of the first seven taps wraps in 16 bits, the last is wrapped by itself, and their sum is limited to 16 bits.
unfoldable pub filtered_sample : (samples : List ℤ) → (coefficients : List ℕ) → ℤ
filtered_sample samples coefficients =
    let given = taps samples coefficients in
    clear_bit0 (clamp16 (wrap16 (signed_sum (take 7 given)) +ℤ wrap16 (number_at given 7)))

-- the eight samples of a row from a place on
abbrev pub eight_from : (row : List ℤ) → (place : ℕ) → List ℤ
eight_from row place = take 8 (drop place row)
