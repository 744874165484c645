-- The samples that are kept of the digits of blocks.
use Rattle.std.specs.Prelude.{◌≡◌, ℕ, ◌+◌, ◌/◌, ◌^◌, ℤ, pos, neg_ℤ, ◌+ℤ◌, ◌-ℤ◌, ◌*ℤ◌, List, [], ◌∷◌, ◌++◌, length, reverse, fold, nat_le, int_lt, ◌==◌, if◌then◌else◌, slice_get, Some}
use Rattle.num_fix.specs.Arithmetic.{floor_shift, scaled, wrap16, clamp16, sign4}
use Rattle.num_fix.specs.SignedWords.{number_at}
use Rattle.brr_decode.specs.Header.{shift_of, filter_of}

-- A digit under the shift of its block. The shifts 13 to 15 leave of a digit its sign alone.
unfoldable pub shifted_digit : (shift : ℕ) → ℤ → ℤ
shifted_digit shift digit =
    if nat_le shift 12 then scaled digit (pos (2 ^ shift)) 1
    else if int_lt digit (pos 0) then neg_ℤ (pos 2048)
    else pos 0

-- What a filter adds to a shifted digit, by the last kept sample p1 and the kept sample p2 before it.
unfoldable pub prediction : (filter : ℕ) → (p1 p2 : ℤ) → ℤ
prediction filter p1 p2 =
    let q = floor_shift p2 1 in
    if filter == 0 then pos 0
    else if filter == 1 then scaled p1 (pos 1) 1 +ℤ scaled p1 (neg_ℤ (pos 1)) 5
    else if filter == 2 then (p1 -ℤ q) +ℤ (scaled q (pos 1) 4 +ℤ scaled p1 (neg_ℤ (pos 3)) 6)
    else (p1 -ℤ q) +ℤ (scaled q (pos 3) 4 +ℤ scaled p1 (neg_ℤ (pos 13)) 7)

-- The sample that is kept of a digit: the sum is limited to 16 bits, and its double wraps in them.
unfoldable pub kept_sample : (header : ℕ) → (digit p1 p2 : ℤ) → ℤ
kept_sample header digit p1 p2 =
    wrap16 (pos 2 *ℤ clamp16 (shifted_digit (shift_of header) digit +ℤ prediction (filter_of header) p1 p2))

-- a digit, with the header of its block
pub record Digit : Type 0 where
  pub header : ℕ
  pub value : ℤ

-- the sample k places before the last of a list; zeros stand before the first
abbrev pub sample_from_end : List ℤ → (k : ℕ) → ℤ
sample_from_end samples k = number_at (reverse samples) k

-- samples, and after them the one that is kept of a digit, by the last two of them
unfoldable pub with_kept : List ℤ → Digit → List ℤ
with_kept samples digit =
    samples ++ kept_sample digit.header digit.value (sample_from_end samples 0) (sample_from_end samples 1) ∷ []

-- samples, and after them those of digits in order
abbrev pub with_all_kept : List ℤ → List Digit → List ℤ
with_all_kept samples digits = fold with_kept samples digits

-- the digits of bytes under one header, of each byte the high digit first
abbrev pub digits_under : (header : ℕ) → (bytes : List ℕ) → List Digit
digits_under header [] = []
digits_under header (byte ∷ bytes) =
    record { header = header; value = sign4 (byte / 0x10) } ∷ record { header = header; value = sign4 byte } ∷ digits_under header bytes

-- samples, and after them the four of a group: two bytes under a header
unfoldable pub with_group : List ℤ → (header b0 b1 : ℕ) → List ℤ
with_group samples header b0 b1 = with_all_kept samples (digits_under header (b0 ∷ b1 ∷ []))

-- the digits of blocks: nine bytes each, a header and eight bytes of digits
abbrev pub digits_of : (bytes : List ℕ) → List Digit
digits_of (header ∷ a ∷ b ∷ c ∷ d ∷ e ∷ f ∷ g ∷ h ∷ rest) =
    digits_under header (a ∷ b ∷ c ∷ d ∷ e ∷ f ∷ g ∷ h ∷ []) ++ digits_of rest
digits_of rest = []

-- the samples of a stream of blocks, one list over all of them
unfoldable pub samples_of : (bytes : List ℕ) → List ℤ
samples_of bytes = with_all_kept [] (digits_of bytes)

-- Each sample is the one kept of its digit by the two samples before it, where two zeros stand before the first.
pub record IsKept (digits : List Digit) (samples : List ℤ) : Type 0 where
  pub as_long : length samples ≡ length digits
  pub entry : (j : ℕ) (digit : Digit) → slice_get digits j ≡ Some digit →
      let padded = pos 0 ∷ pos 0 ∷ samples in
      slice_get samples j ≡ Some (kept_sample digit.header digit.value (number_at padded (j + 1)) (number_at padded j))

-- p1 is the last of a list of samples, and p2 the one before it, where two zeros stand before the first
pub record EndsWith (samples : List ℤ) (p2 p1 : ℤ) : Type 0 where
  pub last : sample_from_end samples 0 ≡ p1
  pub before : sample_from_end samples 1 ≡ p2
