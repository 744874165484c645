use Rattle.brr_encode.specs.Encoding.{header_at}
use Rattle.brr_encode.specs.Greedy.{greedy_squares}
use Rattle.brr_encode.specs.EncoderParts.{IsCheapest}
use Rattle.brr_encode.proofs.search.best_header.Given as goal

abbrev pub invariant-headers : goal.invariant-headers
invariant-headers l = IsCheapest (λ place. greedy_squares (header_at place) l.p1 l.p2 l.targets) l.place l.cheapest
