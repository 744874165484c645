use Rattle.brr_encode.specs.Encoding.{header_count}
use Rattle.brr_encode.specs.Triples.{IsAllowedHeader}
use Rattle.brr_encode.proofs.Triples.{header_at-allowed}
use Rattle.brr_search.proofs.Headers.{all-best}
use Rattle.brr_search.proofs.laws.each_candidate_has_an_allowed_header.Goals as goal

pub returns : goal.returns
returns c most candidates targets alone = all-best (λ header. IsAllowedHeader alone header) most candidates targets (header_count alone) (header_at-allowed alone)
