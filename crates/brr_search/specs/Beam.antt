-- The candidates through a block: of each header so many as stay at each of its samples, and of all headers so many as stay at its end.
use Rattle.std.specs.Prelude.{ℕ, zero, suc, ◌+◌, ◌-◌, ◌^◌, ◌==◌, ◌∷◌, ◌++◌, List, [], take, drop, slice_get, Option, Some, None, ℤ, Bool}
use Rattle.std.specs.Int.{w64, to_be_bytes}
use Rattle.brr_encode.specs.Encoding.{header_at, header_count, stands_alone, end_bits}
use Rattle.brr_search.specs.Candidates.{keep, keep_nearest}
use Rattle.brr_search.specs.declared.candidate.Candidate.{Candidate}

-- the candidates that stay after one target more, besides those that were kept already
abbrev pub after_target : (most limit : ℕ) → (target : ℤ) → (candidates kept : List Candidate) → List Candidate
after_target most limit target [] kept = kept
after_target most limit target (candidate ∷ candidates) kept = after_target most limit target candidates (keep_nearest most limit target candidate kept)

-- the candidates that stay after targets
abbrev pub after_targets : (most limit : ℕ) → (targets : List ℤ) → (candidates : List Candidate) → List Candidate
after_targets most limit [] candidates = candidates
after_targets most limit (target ∷ targets) candidates = after_targets most limit targets (after_target most limit target candidates [])

-- candidates at the start of a block under a header: each goes on from one of those before, the first of which has this place
abbrev pub opened : (header place : ℕ) → (candidates : List Candidate) → List Candidate
opened header place [] = []
opened header place (candidate ∷ candidates) = record candidate { header = header; start = place } ∷ opened header (suc place) candidates

-- candidates are kept one after another
abbrev pub keep_all : (most : ℕ) → (candidates kept : List Candidate) → List Candidate
keep_all most [] kept = kept
keep_all most (candidate ∷ candidates) kept = keep_all most candidates (keep most candidate kept)

abbrev pub squares_or : (limit : ℕ) → Option Candidate → ℕ
squares_or limit None = limit
squares_or limit (Some candidate) = candidate.squares

-- what a candidate must cost less than to stay: what the dearest of so many costs, and 2 ^ 64 - 1 as long as there are fewer
abbrev pub limit_of : (most : ℕ) → (candidates : List Candidate) → ℕ
limit_of most candidates = squares_or (2 ^ 64 - 1) (slice_get candidates (most - 1))

-- the candidates that stay after a block, of those that go on from others under so many headers
abbrev pub best_candidates : (most : ℕ) → (candidates : List Candidate) → (targets : List ℤ) → (count : ℕ) → List Candidate
best_candidates most candidates targets zero = []
best_candidates most candidates targets (suc count) =
    let best = best_candidates most candidates targets count in
    keep_all most (after_targets most (limit_of most best) targets (opened (header_at count) 0 candidates)) best

-- the block of a candidate, its header with end and loop bits
abbrev pub block_of_candidate : (flags : ℕ) → Candidate → List ℕ
block_of_candidate flags candidate = (candidate.header + flags) ∷ to_be_bytes w64 candidate.digits

abbrev pub with_block : (front : ℕ → List ℕ) → (flags : ℕ) → Option Candidate → List ℕ
with_block front flags None = []
with_block front flags (Some candidate) = front candidate.start ++ block_of_candidate flags candidate

-- the blocks of each of the candidates, by its place, with those before them
abbrev pub fronts : (front : ℕ → List ℕ) → (flags : ℕ) → (candidates : List Candidate) → (place : ℕ) → List ℕ
fronts front flags candidates place = with_block front flags (slice_get candidates place)

-- the blocks of the cheapest candidate, the first one, through so many blocks from this index on; before them each candidate has these blocks
abbrev pub blocks_through : (most count index loop_block : ℕ) → (looped : Bool) → (candidates : List Candidate)
    → (front : ℕ → List ℕ) → (targets : List ℤ) → List ℕ
blocks_through most zero index loop_block looped candidates front targets = front 0
blocks_through most (suc count) index loop_block looped candidates front targets =
    let best = best_candidates most candidates (take 16 targets) (header_count (stands_alone index loop_block)) in
    blocks_through most count (suc index) loop_block looped best (fronts front (end_bits (count == 0) looped) best) (drop 16 targets)
