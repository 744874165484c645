use Rattle.spc_player.proofs.MutedTunes.{tune_stays}
use Rattle.spc_player.proofs.laws.the_opening_and_the_file_determine_the_tune.Goals as goal

pub returns : goal.returns
returns c = tune_stays
