use Rattle.brr_encode.proofs.Leasts.{least_place-first}
use Rattle.brr_encode.proofs.laws.least_place_is_first.Goals as goal

pub returns : goal.returns
returns c = least_place-first
