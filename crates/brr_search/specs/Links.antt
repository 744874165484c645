-- The blocks of candidates, each linked to the candidate that it goes on from.
use Rattle.std.specs.Prelude.{ℕ, List, [], ◌∷◌, ◌++◌, ◌≤◌, slice_get, Option, Some, None}
use Rattle.brr_search.specs.Beam.{block_of_candidate}
use Rattle.brr_search.specs.declared.candidate.Candidate.{Candidate}
use Rattle.brr_search.specs.declared.links.Link.{Link}
use Rattle.brr_search.specs.declared.links.Row.{Row}

-- a header that leaves room for end and loop bits
abbrev pub TakesFlags : Candidate → Type 0
TakesFlags candidate = candidate.header ≤ 0xcc

abbrev pub link_of : (flags : ℕ) → Candidate → Link
link_of flags candidate = record { start = candidate.start; block = block_of_candidate flags candidate }

abbrev pub with_link : (front : ℕ → List ℕ) → Option Link → List ℕ
with_link front None = []
with_link front (Some link) = front link.start ++ link.block

-- the blocks of the candidate at a place of the first row, with those before them; the rows stand from the last block back to the first
abbrev pub blocks_along : List Row → (place : ℕ) → List ℕ
blocks_along [] place = []
blocks_along (row ∷ rows) place = with_link (blocks_along rows) (slice_get row.links.items place)
