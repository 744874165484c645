use Rattle.sample_rip.proofs.FoundByBits.{found_by_its_bits}
use Rattle.sample_rip.proofs.laws.a_sample_is_found_by_its_bits.Goals as goal

pub returns : goal.returns
returns c = found_by_its_bits
