-- A candidate through the samples: the last two that it keeps, what it costs from the first sample on, and what it chose in its block.
use Rattle.std.specs.Prelude.{ℕ, suc, ◌+◌, ◌*◌, ◌%◌, ◌^◌, ◌&&◌, ◌∷◌, List, [], take, insert, Option, Some, None, ℤ, pos, negsuc, ◌+ℤ◌, ◌-ℤ◌, int_lt, nat_lt, Bool, if◌then◌else◌}
use Rattle.std.specs.Ordering.{int_eq}
use Rattle.brr_decode.specs.Kept.{kept_sample}
use Rattle.brr_encode.specs.Greedy.{distance, nearest_digit}
use Rattle.brr_encode.specs.Encoding.{digit_bits}
use Rattle.brr_search.specs.declared.candidate.Candidate.{Candidate}

-- the candidate before the first block
abbrev pub no_candidate : Candidate
no_candidate = record { last = pos 0; before = pos 0; squares = 0; header = 0; digits = 0; start = 0 }

-- a candidate with one digit more, if it costs less than the limit; its last sixteen digits stand in one number, four bits each
unfoldable pub gone_on : (limit : ℕ) → (target : ℤ) → Candidate → (digit : ℤ) → Option Candidate
gone_on limit target candidate digit =
    let sample = kept_sample candidate.header digit candidate.last candidate.before in
    let squares = candidate.squares + distance sample target * distance sample target in
    let digits = candidate.digits % 2 ^ 60 * 0x10 + digit_bits digit in
    if nat_lt squares limit then Some (record candidate { last = sample; before = candidate.last; squares = squares; digits = digits }) else None

-- two candidates end in the same two samples, so that what comes after them is the same
abbrev pub end_alike : Candidate → Candidate → Bool
end_alike a b = int_eq a.last b.last && int_eq a.before b.before

-- the place of a candidate among others, counted from a number on: behind those that cost no more; none if one of those ends in the same two samples
abbrev pub place_from : (place : ℕ) → Candidate → List Candidate → Option ℕ
place_from place candidate [] = Some place
place_from place candidate (other ∷ others) =
    if nat_lt candidate.squares other.squares then Some place
    else if end_alike candidate other then None
    else place_from (suc place) candidate others

-- a candidate at a place among others; the dearest beyond so many go
abbrev pub put : (most : ℕ) → (place : Option ℕ) → Candidate → List Candidate → List Candidate
put most None candidate candidates = candidates
put most (Some place) candidate candidates = take most (insert candidates place candidate)

-- the candidates that stay once one more is found: in the order of what they cost, of equals the first one found before, and so many at most
unfoldable pub keep : (most : ℕ) → Candidate → List Candidate → List Candidate
keep most candidate candidates = put most (place_from 0 candidate candidates) candidate candidates

abbrev pub keep_found : (most : ℕ) → Option Candidate → List Candidate → List Candidate
keep_found most None candidates = candidates
keep_found most (Some candidate) candidates = keep most candidate candidates

-- the digits beside a digit
abbrev pub digit_below : ℤ → Option ℤ
digit_below digit = if int_lt (negsuc 7) digit then Some (digit -ℤ pos 1) else None

abbrev pub digit_above : ℤ → Option ℤ
digit_above digit = if int_lt digit (pos 7) then Some (digit +ℤ pos 1) else None

-- the candidates that stay once a candidate goes on by a digit, if there is one
abbrev pub keep_digit : (most limit : ℕ) → (target : ℤ) → Candidate → Option ℤ → List Candidate → List Candidate
keep_digit most limit target candidate None candidates = candidates
keep_digit most limit target candidate (Some digit) candidates = keep_found most (gone_on limit target candidate digit) candidates

-- the same by the digit whose kept sample is nearest the target and by the two beside it
unfoldable pub keep_nearest : (most limit : ℕ) → (target : ℤ) → Candidate → List Candidate → List Candidate
keep_nearest most limit target candidate candidates =
    let digit = nearest_digit candidate.header target candidate.last candidate.before in
    keep_digit most limit target candidate (digit_above digit)
    (keep_digit most limit target candidate (digit_below digit)
    (keep_digit most limit target candidate (Some digit) candidates))
