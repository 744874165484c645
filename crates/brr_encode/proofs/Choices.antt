-- The nearest of the digits so far.
use Rattle.std.proofs.Common.{◌≡◌, ℕ, ◌+◌, ℤ, Bool, true, false, nat_lt, if◌then◌else◌}
use Rattle.brr_encode.specs.Least.{least_place}
use Rattle.brr_encode.proofs.Leasts.{least_place-more}
use Rattle.brr_encode.specs.Greedy.{digit_distance, nearest_digit, nearest_sample, distance}
use Rattle.brr_encode.specs.EncoderParts.{IsAt}
use Rattle.brr_encode.specs.declared.choice.Choice.{Choice}

by_test : (h : ℕ) (t p1 p2 : ℤ) (place other : ℕ) (first second : Choice) (b : Bool) → IsAt h t p1 p2 place first → IsAt h t p1 p2 other second
    → IsAt h t p1 p2 (if b then other else place) (if b then second else first)
by_test h t p1 p2 place other first second true at then_at = then_at
by_test h t p1 p2 place other first second false at then_at = at

-- one digit more
pub nearer_is : (h : ℕ) (t p1 p2 : ℤ) (n : ℕ) (first second : Choice)
    → IsAt h t p1 p2 (least_place (digit_distance h t p1 p2) n) first → IsAt h t p1 p2 n second
    → IsAt h t p1 p2 (least_place (digit_distance h t p1 p2) (n + 1)) (if nat_lt second.distance first.distance then second else first)
nearer_is h t p1 p2 n first second at next_at =
    let f = digit_distance h t p1 p2 in
    let same : nat_lt second.distance first.distance ≡ nat_lt (f n) (f (least_place f n)) = (λ i. nat_lt (next_at.distance i) (at.distance i)) in
    rw (least_place-more f n, same) (by_test h t p1 p2 (least_place f n) n first second (nat_lt (f n) (f (least_place f n))) at next_at)

-- all sixteen digits
pub nearest_is : (h : ℕ) (t p1 p2 : ℤ) (choice : Choice) → IsAt h t p1 p2 (least_place (digit_distance h t p1 p2) 16) choice
    → (choice.digit ≡ nearest_digit h t p1 p2) × (choice.sample ≡ nearest_sample h t p1 p2) × (choice.distance ≡ distance (nearest_sample h t p1 p2) t)
unfolding nearest_digit nearest_sample
nearest_is h t p1 p2 choice at = (at.digit, at.sample, at.distance)
