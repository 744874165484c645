use Rattle.brr_encode.proofs.Triples.{best_header-allowed, best_header-least_triple}
use Rattle.brr_encode.proofs.laws.best_header_has_the_least_triple.Goals as goal

pub returns-clause-allowed : goal.returns-clause-allowed
returns-clause-allowed c = best_header-allowed

pub returns-clause-least : goal.returns-clause-least
returns-clause-least c = best_header-least_triple
