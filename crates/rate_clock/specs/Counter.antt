-- The counter that all rates look at, from the number of the sample, and when a rate fires.
use Rattle.std.specs.Prelude.{◌≡◌, ℕ, zero, suc, ◌+◌, ◌%◌, ◌<◌, List, [], ◌∷◌, Bool, false, ◌&&◌, ◌==◌, nat_lt, pos, negsuc, unsigned_abs, slice_index}
use Rattle.std.specs.Int.{int_rem_euclid}

-- after so many samples the counter wraps around
abbrev pub counter_range : ℕ
counter_range = 30720

-- the counter while sample number k is made: it falls by 1 a sample, and below 0 it wraps around
abbrev pub counter_at : ℕ → ℕ
counter_at k = unsigned_abs (int_rem_euclid (negsuc k) (pos counter_range))

-- the counter once n samples are made: 0 before the first, and then that of the last
abbrev pub counter_after : ℕ → ℕ
counter_after zero = 0
counter_after (suc k) = counter_at k

-- how many samples lie between two firings of each rate; rate 0 never fires
abbrev pub periods : List ℕ
periods =
    0 ∷ 2048 ∷ 1536 ∷ 1280 ∷ 1024 ∷ 768 ∷ 640 ∷ 512 ∷ 384 ∷ 320 ∷ 256 ∷
    192 ∷ 160 ∷ 128 ∷ 96 ∷ 80 ∷ 64 ∷ 48 ∷ 40 ∷ 32 ∷ 24 ∷ 20 ∷
    16 ∷ 12 ∷ 10 ∷ 8 ∷ 6 ∷ 5 ∷ 4 ∷ 3 ∷ 2 ∷ 1 ∷ []

-- what is added to the counter before it is divided by a rate's period
abbrev pub offsets : List ℕ
offsets =
    0 ∷ 0 ∷ 1040 ∷ 536 ∷ 0 ∷ 1040 ∷ 536 ∷ 0 ∷ 1040 ∷ 536 ∷ 0 ∷
    1040 ∷ 536 ∷ 0 ∷ 1040 ∷ 536 ∷ 0 ∷ 1040 ∷ 536 ∷ 0 ∷ 1040 ∷ 536 ∷
    0 ∷ 1040 ∷ 536 ∷ 0 ∷ 1040 ∷ 536 ∷ 0 ∷ 1040 ∷ 0 ∷ 0 ∷ []

-- whether a rate fires at a counter
unfoldable pub fires : ℕ → ℕ → Bool
fires rate counter = nat_lt 0 rate && ((counter + slice_index offsets rate) % slice_index periods rate == 0)

-- how many samples pass before a rate above 0 fires, from the one at a counter on
abbrev pub until_fires : (rate counter : ℕ) → ℕ
until_fires rate counter = (counter + slice_index offsets rate) % slice_index periods rate

-- a rate fires at none of so many samples, from number k on
abbrev pub IsQuiet : (rate k samples : ℕ) → Type 0
IsQuiet rate k samples = (j : ℕ) → j < samples → fires rate (counter_at (k + j)) ≡ false
