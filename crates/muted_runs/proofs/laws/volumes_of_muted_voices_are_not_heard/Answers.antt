use Rattle.muted_runs.proofs.AlikeFiles.{sound_alike}
use Rattle.muted_runs.proofs.laws.volumes_of_muted_voices_are_not_heard.Goals as goal

pub returns : goal.returns
returns c = λ file other table muted mask samples differ unread. sound_alike muted file other differ table mask samples unread
