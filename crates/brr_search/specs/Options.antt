-- How a sound is encoded.
use Rattle.std.specs.Prelude.{◌≤◌, ℕ, ◌/◌, Bool, false, ◌||◌, nat_le, Option, None, Some, is_some, unwrap_or, IfSome}
use Rattle.brr_search.specs.declared.options.EncodeOptions.{EncodeOptions}
use Rattle.brr_search.specs.declared.options.TheConstants.{MAX_CANDIDATES}

-- the most candidates that are kept open: 64
abbrev pub max_candidates : ℕ
max_candidates = MAX_CANDIDATES

-- as many candidates as may be kept open
abbrev pub AreInRange : EncodeOptions → Type 0
AreInRange options = IfSome options.candidates (λ candidates. candidates ≤ max_candidates)

-- one candidate is kept open where the words say no more
abbrev pub candidates_of : EncodeOptions → ℕ
candidates_of options = unwrap_or options.candidates 1

-- a sound loops where the words say so, or where they say at which sample
abbrev pub is_looped : EncodeOptions → Bool
is_looped options = options.looped || is_some options.loop_at

-- the block from which the loop goes on: that of the sample, or the first one
abbrev pub loop_block_of : EncodeOptions → ℕ
loop_block_of options = unwrap_or options.loop_at 0 / 16

-- the loop is to go on from a sample that isn't there
abbrev pub is_past : (count : ℕ) → (loop_at : Option ℕ) → Bool
is_past count None = false
is_past count (Some sample) = nat_le count sample
