use Rattle.std.proofs.Common.{refl}
use Rattle.sample_rip.specs.Rip.{rip_found}
use Rattle.sample_rip.proofs.finding.rip.Goals as goal

pub returns-clause-found : goal.returns-clause-found
unfolding rip_found
returns-clause-found c = rw (c.found_from.ensures.found, c.start_word-start.ensures, c.loop_word-address.ensures) refl
