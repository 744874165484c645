use Rattle.std.proofs.Common.{◌≡◌, arith, rules, to_z, of_z, w16}
use Rattle.brr_encode.specs.Greedy.{nearest_digit, nearest_sample, distance}
use Rattle.brr_encode.proofs.Leasts.{least_place-one}
use Rattle.brr_encode.proofs.Choices.{nearer_is, nearest_is}
use Rattle.brr_encode.proofs.choice.nearest.Goals as goal

pub places-init : goal.places-init
places-init c = rw (least_place-one _) c.digit_at-best.ensures

pub places-preserved : goal.places-preserved
places-preserved c = rw c.nearer-best.ensures (nearer_is _ _ _ _ _ _ _ c.places.invariant c.digit_at.ensures)

-- the loop has gone over all digits
found : (c : goal.After-places) → (c.places.best.digit ≡ nearest_digit c.args.header c.args.target c.args.p1 c.args.p2)
    × (c.places.best.sample ≡ nearest_sample c.args.header c.args.target c.args.p1 c.args.p2)
    × (c.places.best.distance ≡ distance (nearest_sample c.args.header c.args.target c.args.p1 c.args.p2) c.args.target)
found c =
    let all : c.places.place ≡ 16 = omega arith in
    let t : to_z w16 (of_z w16 c.args.target) ≡ c.args.target = search rules in
    let a : to_z w16 (of_z w16 c.args.p1) ≡ c.args.p1 = search rules in
    let b : to_z w16 (of_z w16 c.args.p2) ≡ c.args.p2 = search rules in
    nearest_is _ _ _ _ _ (rw (all, t, a, b) at c.places.invariant)

pub returns-clause-digit : goal.returns-clause-digit
returns-clause-digit c = (found c).0

pub returns-clause-sample : goal.returns-clause-sample
returns-clause-sample c = (found c).1

pub returns-clause-distance : goal.returns-clause-distance
returns-clause-distance c = (found c).2
