-- The encoding that is found: the plain one, or a cheaper one along other candidates.
use Rattle.std.specs.Prelude.{ℕ, ◌+◌, ◌-◌, ◌*◌, ◌/◌, ◌==◌, ◌&&◌, List, [], ◌∷◌, length, nat_lt, nat_le, ℤ, Bool, Option, Result, IfOk, IfSome, if◌then◌else◌}
use Rattle.brr_encode.specs.Encoding.{padded_samples, encoding_from, unless_refused}
use Rattle.brr_encode.specs.Report.{reports_of}
use Rattle.brr_encode.specs.declared.report.BlockReport.{BlockReport}
use Rattle.brr_encode.specs.declared.encoder.EncodeRefusal.{EncodeRefusal}
use Rattle.brr_search.specs.Candidates.{no_candidate}
use Rattle.brr_search.specs.Beam.{blocks_through}

-- the squares of all blocks
abbrev pub sum_of_squares : List BlockReport → ℕ
sum_of_squares [] = 0
sum_of_squares (report ∷ reports) = report.squares + sum_of_squares reports

-- what blocks cost: the sum of the squared distances of the samples that they are decoded to from their targets
abbrev pub cost_of : (blocks : List ℕ) → (targets : List ℤ) → ℕ
cost_of blocks targets = sum_of_squares (reports_of blocks targets)

-- the blocks along the cheapest of so many candidates through targets
unfoldable pub searched : (most loop_block : ℕ) → (targets : List ℤ) → (looped : Bool) → List ℕ
searched most loop_block targets looped = blocks_through most (length targets / 16) 0 loop_block looped (no_candidate ∷ []) (λ _. []) targets

-- if something is found, it is so
abbrev pub IfFound : {T E : Type 0} → Result (Option T) E → (T → Type 0) → Type 0
IfFound result IsSo = IfOk result (λ found. IfSome found IsSo)

-- blocks are as many as the targets want, and cost less than this
abbrev pub is_cheaper : (cost : ℕ) → (targets : List ℤ) → (blocks : List ℕ) → Bool
is_cheaper cost targets blocks = (length blocks == 9 * (length targets / 16)) && nat_lt (cost_of blocks targets) cost

-- of the plain blocks and others the cheaper, of equals the plain ones
abbrev pub cheaper : (targets : List ℤ) → (plain others : List ℕ) → List ℕ
cheaper targets plain others = if is_cheaper (cost_of plain targets) targets others then others else plain

-- the encoding of samples that is found by so many candidates, of which the plain encoding is one; a loop goes on from the block of an index
unfoldable pub found_encoding : (candidates loop_block : ℕ) → (samples : List ℤ) → (looped : Bool) → List ℕ
found_encoding candidates loop_block samples looped =
    let plain = encoding_from loop_block samples looped in
    let targets = padded_samples samples in
    if nat_le candidates 1 then plain else cheaper targets plain (searched (candidates - 1) loop_block targets looped)

-- the same, or why there is none
unfoldable pub found_samples : (candidates loop_block : ℕ) → (samples : List ℤ) → (looped : Bool) → Result (List ℕ) EncodeRefusal
found_samples candidates loop_block samples looped = unless_refused samples (found_encoding candidates loop_block samples looped)
