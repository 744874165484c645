-- The first of the headers that cost least is an allowed one, and has the least triple.
use Rattle.std.proofs.Common.{◌≡◌, ◌⊎◌, ℕ, ◌+◌, ◌*◌, ◌/◌, ◌%◌, ◌<◌, ◌≤◌, Bool, true, false, List, ℤ, refl, sym, inl, inr, arith, subst}
use Rattle.std.proofs.lemmas.Bool.{cases_lt}
use Rattle.std.proofs.lemmas.Bool.Decides.{nat_tests}
use Rattle.brr_decode.specs.Header.{filter_of, shift_of}
use Rattle.brr_encode.specs.Least.{least_place, IsFirstLeast}
use Rattle.brr_encode.specs.Greedy.{greedy_squares}
use Rattle.brr_encode.specs.Encoding.{header_of, header_at, header_count, best_header}
use Rattle.brr_encode.specs.Triples.{Triple, IsUpTo, IsAllowedHeader, filter_count, triple_of}
use Rattle.brr_encode.proofs.Leasts.{least_place-first}

-- the filter and the shift of a header
filter_of-header_of : (filter shift : ℕ) → filter < 4 → filter_of (header_of filter shift) ≡ filter
filter_of-header_of filter shift few = omega arith

shift_of-header_of : (filter shift : ℕ) → filter < 4 → shift_of (header_of filter shift) ≡ shift
shift_of-header_of filter shift few = omega arith

-- an allowed header is that of its filter and its shift
header_of-allowed : (first : Bool) (header : ℕ) → IsAllowedHeader first header → header_of (filter_of header) (shift_of header) ≡ header
header_of-allowed first header h =
    let loop_bit : header / 2 % 2 ≡ 0 = grind (arith, nat_tests, h.no_loop) in
    let end_bit : header % 2 ≡ 0 = grind (arith, nat_tests, h.no_end) in
    omega (arith, loop_bit, end_bit)

-- where a header stands in the order in which they are tried
header_at-place_of : (filter shift : ℕ) → shift ≤ 12 → header_at (filter * 13 + shift) ≡ header_of filter shift
header_at-place_of filter shift few =
    let f : (filter * 13 + shift) / 13 ≡ filter = omega arith in
    let s : (filter * 13 + shift) % 13 ≡ shift = omega arith in
    rw (f, s) refl

place_of-within : (first : Bool) (filter shift : ℕ) → filter < filter_count first → shift ≤ 12 → filter * 13 + shift < header_count first
place_of-within true filter shift h few = omega arith
place_of-within false filter shift h few = omega arith

filters_are_four : (first : Bool) (place : ℕ) → place < header_count first → place / 13 < 4
filters_are_four true place h = omega arith
filters_are_four false place h = omega arith

-- of two places the first has the lesser filter, or the same filter and no greater shift
in_order : (a b : ℕ) → a ≤ b → (a / 13 < b / 13) ⊎ ((a / 13 ≡ b / 13) × (a % 13 ≤ b % 13))
in_order a b h = elim (cases_lt (a / 13) (b / 13)) [
  | inl less ↦ inl less
  | inr not_less ↦ let same : a / 13 ≡ b / 13 = omega arith in inr (same, omega arith)
]

-- the first least place comes before another one by its number, or else by the order
first_least : (f : ℕ → ℕ) (n place other : ℕ) → IsFirstLeast f n place → other < n → (f place < f other) ⊎ ((f place ≡ f other) × (place ≤ other))
first_least f n place other h within = elim (cases_lt other place) [
  | inl before ↦ inl (h.first other before)
  | inr from ↦ elim (cases_lt (f place) (f other)) [
    | inl less ↦ inl less
    | inr not_less ↦ let least : f place ≤ f other = h.least other within in inr (omega arith, omega arith)
  ]
]

-- places in the order of their numbers are headers in the order of their triples
up_to_by_places : (f : ℕ → ℕ) (place other : ℕ) → (f place < f other) ⊎ ((f place ≡ f other) × (place ≤ other)) → IsUpTo (record { squares = f place; filter = place / 13; shift = place % 13 }) (record { squares = f other; filter = other / 13; shift = other % 13 })
up_to_by_places f place other (inl less) = inl less
up_to_by_places f place other (inr same) = inr (same.0, in_order place other same.1)

triple_at : (p1 p2 : ℤ) (targets : List ℤ) (place : ℕ) → place / 13 < 4 → triple_of (header_at place) p1 p2 targets ≡ record { squares = greedy_squares (header_at place) p1 p2 targets; filter = place / 13; shift = place % 13 }
triple_at p1 p2 targets place few =
    let f : filter_of (header_at place) ≡ place / 13 = filter_of-header_of (place / 13) (place % 13) few in
    let s : shift_of (header_at place) ≡ place % 13 = shift_of-header_of (place / 13) (place % 13) few in
    λ i. record { squares = greedy_squares (header_at place) p1 p2 targets; filter = f i; shift = s i }

some_headers : (first : Bool) → 0 < header_count first
some_headers true = omega arith
some_headers false = omega arith

-- each place in the order is of an allowed header
filters_within : (first : Bool) (place : ℕ) → place < header_count first → place / 13 < filter_count first
filters_within true place h = omega arith
filters_within false place h = omega arith

pub header_at-allowed : (first : Bool) (place : ℕ) → place < header_count first → IsAllowedHeader first (header_at place)
header_at-allowed first place h =
    let few = filters_are_four first place h in
    record {
      filter = rw (filter_of-header_of (place / 13) (place % 13) few) (filters_within first place h);
      shift = rw (shift_of-header_of (place / 13) (place % 13) few) (omega arith);
      no_loop = grind (arith, nat_tests);
      no_end = grind (arith, nat_tests);
    }

pub best_header-allowed : (first : Bool) (p1 p2 : ℤ) (targets : List ℤ) → IsAllowedHeader first (best_header first p1 p2 targets)
unfolding best_header
best_header-allowed first p1 p2 targets =
    let f : ℕ → ℕ = λ place. greedy_squares (header_at place) p1 p2 targets in
    let least = least_place-first f (header_count first) (some_headers first) in
    header_at-allowed first (least_place f (header_count first)) least.within

best_header-least_of : (first : Bool) (p1 p2 : ℤ) (targets : List ℤ) (filter shift : ℕ) → filter < filter_count first → shift ≤ 12 → IsUpTo (triple_of (best_header first p1 p2 targets) p1 p2 targets) (triple_of (header_of filter shift) p1 p2 targets)
unfolding best_header
best_header-least_of first p1 p2 targets filter shift known few =
    let f : ℕ → ℕ = λ place. greedy_squares (header_at place) p1 p2 targets in
    let count = header_count first in
    let other = filter * 13 + shift in
    let place = least_place f count in
    let within : other < count = place_of-within first filter shift known few in
    let least = least_place-first f count (omega (arith, within)) in
    let up_to = up_to_by_places f place other (first_least f count place other least within) in
    let to_other = subst (λ (t : Triple). IsUpTo (record { squares = f place; filter = place / 13; shift = place % 13 }) t) (sym (triple_at p1 p2 targets other (filters_are_four first other within))) up_to in
    let from_place = subst (λ (t : Triple). IsUpTo t (triple_of (header_at other) p1 p2 targets)) (sym (triple_at p1 p2 targets place (filters_are_four first place least.within))) to_other in
    subst (λ (header : ℕ). IsUpTo (triple_of (header_at place) p1 p2 targets) (triple_of header p1 p2 targets)) (header_at-place_of filter shift few) from_place

pub best_header-least_triple : (first : Bool) (p1 p2 : ℤ) (targets : List ℤ) (header : ℕ) → IsAllowedHeader first header → IsUpTo (triple_of (best_header first p1 p2 targets) p1 p2 targets) (triple_of header p1 p2 targets)
best_header-least_triple first p1 p2 targets header h =
    subst (λ (other : ℕ). IsUpTo (triple_of (best_header first p1 p2 targets) p1 p2 targets) (triple_of other p1 p2 targets)) (header_of-allowed first header h) (best_header-least_of first p1 p2 targets (filter_of header) (shift_of header) h.filter h.shift)
