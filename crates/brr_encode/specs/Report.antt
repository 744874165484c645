-- What the report of a block says, read off the stream as it is decoded.
use Rattle.std.specs.Prelude.{ℕ, zero, suc, ◌/◌, ◌^◌, ◌≤◌, List, [], ◌∷◌, length, take, drop, max, slice_index, ℤ}
use Rattle.brr_decode.specs.Kept.{samples_of}
use Rattle.brr_encode.specs.Greedy.{distance, squares}
use Rattle.brr_encode.specs.declared.report.BlockReport.{BlockReport}

-- the greatest distance of samples from their targets
abbrev pub worst : (samples targets : List ℤ) → ℕ
worst (sample ∷ samples) (target ∷ targets) = max (distance sample target) (worst samples targets)
worst (sample ∷ samples) [] = 0
worst [] targets = 0

-- the most that the squares of a block can sum to: sixteen times the square of 65,536
abbrev pub max_squares : ℕ
max_squares = 2 ^ 36

-- a report's squares are no more than a block can have
abbrev pub IsWithin : BlockReport → Type 0
IsWithin report = report.squares ≤ max_squares

-- the reports of so many blocks: of each its header, and the errors of its sixteen decoded samples against their targets
abbrev pub reports_from : (count : ℕ) → (bytes : List ℕ) → (decoded targets : List ℤ) → List BlockReport
reports_from zero bytes decoded targets = []
reports_from (suc count) bytes decoded targets =
    record { header = slice_index bytes 0; worst = worst (take 16 decoded) (take 16 targets); squares = squares (take 16 decoded) (take 16 targets) }
    ∷ reports_from count (drop 9 bytes) (drop 16 decoded) (drop 16 targets)

-- the reports of a stream of blocks, by its own decoding
unfoldable pub reports_of : (bytes : List ℕ) → (targets : List ℤ) → List BlockReport
reports_of bytes targets = reports_from (length bytes / 9) bytes (samples_of bytes) targets
