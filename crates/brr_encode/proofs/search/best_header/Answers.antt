use Rattle.std.proofs.Common.{rules, ◌≡◌, ◌<◌, to_z, of_z, w16, arith, ◌∙◌, ap}
use Rattle.brr_encode.specs.Least.{least_place}
use Rattle.brr_encode.specs.Encoding.{header_at, header_count, best_header}
use Rattle.brr_encode.specs.Greedy.{greedy_squares}
use Rattle.brr_encode.proofs.Cheapests.{nothing_tried, cheapest_next, cheapest_within}
use Rattle.brr_encode.proofs.search.best_header.Goals as goal

pub headers-init : goal.headers-init
headers-init c = nothing_tried _

pub headers-preserved : goal.headers-preserved
headers-preserved c =
    let squares = rw c.header_at.ensures.header at c.squares_below-squares.ensures.squares in
    let too_much = rw c.header_at.ensures.header at c.squares_below-squares.ensures.too_much in
    cheapest_next _ _ _ _ c.squares_below-squares.result c.headers.invariant squares c.squares_below-squares.ensures.below too_much c.with_tried-cheapest.ensures.cheaper c.with_tried-cheapest.ensures.same

-- the loop has gone over all headers
tried : (c : goal.After-headers) → c.headers.place ≡ header_count c.args.first
tried c = let same : c.headers.place ≡ c.header_count-place-end.result = omega arith in same ∙ c.header_count-place-end.ensures.count

pub header_at-requires-2 : goal.header_at-requires-2
header_at-requires-2 c =
    let same : c.headers.place ≡ c.header_count-place-end.result = omega arith in
    let some : 0 < c.headers.place = omega (arith, same, c.header_count-place-end.ensures.some) in
    let within : c.headers.cheapest.place < c.headers.place = cheapest_within c.headers.invariant some in
    omega (arith, within, same, c.header_count-place-end.ensures.bound)

pub returns-clause-best : goal.returns-clause-best
unfolding best_header
returns-clause-best c =
    let a : to_z w16 (of_z w16 c.args.p1) ≡ c.args.p1 = search rules in
    let b : to_z w16 (of_z w16 c.args.p2) ≡ c.args.p2 = search rules in
    let all = let same : c.headers.place ≡ c.header_count-place-end.result = omega arith in same ∙ c.header_count-place-end.ensures.count in
    c.header_at-2.ensures.header ∙ ap header_at (c.headers.invariant.place ∙ (λ i. least_place (λ place. greedy_squares (header_at place) (a i) (b i) c.args.targets.now) (all i)))
