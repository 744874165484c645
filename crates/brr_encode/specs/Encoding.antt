-- The encoding of samples: blocks of sixteen, each under the header that costs least.
use Rattle.std.specs.Prelude.{ℕ, zero, suc, ◌+◌, ◌-◌, ◌*◌, ◌/◌, ◌%◌, List, [], ◌∷◌, ◌++◌, length, take, drop, replicate, Bool, ◌==◌, ◌||◌, nat_lt, Result, Ok, Err, ℤ, pos, unsigned_abs, if◌then◌else◌}
use Rattle.std.specs.Int.{int_rem_euclid}
use Rattle.num_fix.specs.SignedWords.{number_at}
use Rattle.brr_encode.specs.Least.{least_place}
use Rattle.brr_encode.specs.declared.encoder.EncodeRefusal.{EncodeRefusal}
use Rattle.brr_encode.specs.declared.encoder.EncodeRefusal.TheVariants.{Empty, TooLong}
use Rattle.brr_encode.specs.Greedy.{greedy_digits, greedy_samples, greedy_squares}

-- the header of a filter and a shift
abbrev pub header_of : (filter shift : ℕ) → ℕ
header_of filter shift = shift * 0x10 + filter * 4

-- the headers in the order in which they are tried: filter 0 with the shifts 0 to 12, then filter 1, and so on up to filter 3
abbrev pub header_at : (place : ℕ) → ℕ
header_at place = header_of (place / 13) (place % 13)

-- how many of them a block tries: the first block filter 0 alone, as nothing stands before it
abbrev pub header_count : (first : Bool) → ℕ
header_count first = if first then 13 else 52

-- the header that costs least, of several the first
unfoldable pub best_header : (first : Bool) → (p1 p2 : ℤ) → (targets : List ℤ) → ℕ
best_header first p1 p2 targets = header_at (least_place (λ place. greedy_squares (header_at place) p1 p2 targets) (header_count first))

-- the four bits of a digit
abbrev pub digit_bits : ℤ → ℕ
digit_bits digit = unsigned_abs (int_rem_euclid digit (pos 16))

-- digits as bytes, two by two, the high digit first
abbrev pub digit_bytes : List ℤ → List ℕ
digit_bytes (high ∷ low ∷ digits) = (digit_bits high * 0x10 + digit_bits low) ∷ digit_bytes digits
digit_bytes (high ∷ []) = []
digit_bytes [] = []

-- the end bit, and with looping the loop bit, of the last block
abbrev pub end_bits : (last looped : Bool) → ℕ
end_bits last looped = if last then (if looped then 3 else 1) else 0

-- samples, and after them as many zeros as make whole blocks
abbrev pub padded_samples : List ℤ → List ℤ
padded_samples samples = samples ++ replicate ((16 - length samples % 16) % 16) (pos 0)

-- a block of sixteen targets under its best header
abbrev pub block_of : (first last looped : Bool) → (p1 p2 : ℤ) → (targets : List ℤ) → List ℕ
block_of first last looped p1 p2 targets =
    let header = best_header first p1 p2 targets in
    (header + end_bits last looped) ∷ digit_bytes (greedy_digits header p1 p2 targets)

-- the samples that are kept of it
abbrev pub block_samples : (first : Bool) → (p1 p2 : ℤ) → (targets : List ℤ) → List ℤ
block_samples first p1 p2 targets = greedy_samples (best_header first p1 p2 targets) p1 p2 targets

-- a block that tries filter 0 alone: the first one, as nothing stands before it, and the one from which a loop goes on
abbrev pub stands_alone : (index loop_block : ℕ) → Bool
stands_alone index loop_block = (index == 0) || (index == loop_block)

-- so many blocks from this index on, after the kept samples p1 and p2
abbrev pub blocks_of : (count index loop_block : ℕ) → (looped : Bool) → (p1 p2 : ℤ) → (targets : List ℤ) → List ℕ
blocks_of zero index loop_block looped p1 p2 targets = []
blocks_of (suc count) index loop_block looped p1 p2 targets =
    let kept = block_samples (stands_alone index loop_block) p1 p2 (take 16 targets) in
    block_of (stands_alone index loop_block) (count == 0) looped p1 p2 (take 16 targets)
    ++ blocks_of count (suc index) loop_block looped (number_at kept 15) (number_at kept 14) (drop 16 targets)

-- the encoding of samples, where a loop goes on from the block of an index
unfoldable pub encoding_from : (loop_block : ℕ) → (samples : List ℤ) → (looped : Bool) → List ℕ
encoding_from loop_block samples looped =
    blocks_of (length (padded_samples samples) / 16) 0 loop_block looped (pos 0) (pos 0) (padded_samples samples)

-- the encoding of samples, where a loop goes on from the first block
abbrev pub encoding : (samples : List ℤ) → (looped : Bool) → List ℕ
encoding samples looped = encoding_from 0 samples looped

-- the most blocks of an encoding, and their samples
abbrev pub max_blocks : ℕ
max_blocks = 7280

abbrev pub max_samples : ℕ
max_samples = 116480

-- the blocks of samples, or why there are none: of no samples, and of too many
abbrev pub unless_refused : (samples : List ℤ) → (blocks : List ℕ) → Result (List ℕ) EncodeRefusal
unless_refused samples blocks =
    if length samples == 0 then Err Empty
    else if nat_lt max_samples (length samples) then Err TooLong
    else Ok blocks

-- the blocks of samples, where a loop goes on from the block of an index, or why there are none
unfoldable pub encoded_from : (loop_block : ℕ) → (samples : List ℤ) → (looped : Bool) → Result (List ℕ) EncodeRefusal
encoded_from loop_block samples looped = unless_refused samples (encoding_from loop_block samples looped)

-- the blocks of samples, or why there are none
unfoldable pub encoded_samples : (samples : List ℤ) → (looped : Bool) → Result (List ℕ) EncodeRefusal
encoded_samples samples looped = unless_refused samples (encoding samples looped)
