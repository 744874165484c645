use Rattle.brr_encode.specs.Least.{least_place}
use Rattle.brr_encode.specs.Greedy.{digit_distance}
use Rattle.brr_encode.specs.EncoderParts.{IsAt}
use Rattle.brr_encode.proofs.choice.nearest.Given as goal

abbrev pub invariant-places : goal.invariant-places
invariant-places l = IsAt l.header l.target l.p1 l.p2 (least_place (digit_distance l.header l.target l.p1 l.p2) l.place) l.best
