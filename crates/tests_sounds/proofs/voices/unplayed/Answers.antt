use Rattle.std.proofs.lemmas.List.{get_or-replicate}
use Rattle.tests_sounds.proofs.voices.unplayed.Goals as goal

pub returns : goal.returns
returns c j below = get_or-replicate 64 j 0 0 below
