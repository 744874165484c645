-- Rows of sums with the shares of a voice.
use Rattle.std.specs.Prelude.{◌≡◌, ℕ, ◌<◌, List, ℤ, pos, ◌+ℤ◌}
use Rattle.num_fix.specs.Arithmetic.{clamp16, scaled}
use Rattle.num_fix.specs.SignedWords.{number_at}
use Rattle.chip_form.specs.Limits.{max_samples_of_batch}

-- each sum has the share of an output at a volume added, limited to 16 bits
abbrev pub HasShares : (outs : List ℤ) → (volume : ℤ) → (before after : List ℤ) → Type 0
HasShares outs volume before after =
    (j : ℕ) → j < max_samples_of_batch → number_at after j ≡ clamp16 (number_at before j +ℤ scaled (number_at outs j) volume 7)

-- each output of a row is 0
abbrev pub IsSilentRow : (outs : List ℤ) → Type 0
IsSilentRow outs = (j : ℕ) → j < max_samples_of_batch → number_at outs j ≡ pos 0
