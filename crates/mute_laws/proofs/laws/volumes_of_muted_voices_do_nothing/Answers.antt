use Rattle.mute_laws.proofs.Alike.{samples_stay_alike}
use Rattle.mute_laws.proofs.Writes.{reads_stay_alike, writes_stay_alike, muted_writes_stay_alike}
use Rattle.mute_laws.proofs.laws.volumes_of_muted_voices_do_nothing.Goals as goal

pub returns-clause-samples : goal.returns-clause-samples
returns-clause-samples c = samples_stay_alike

pub returns-clause-reads : goal.returns-clause-reads
returns-clause-reads c = reads_stay_alike

pub returns-clause-writes : goal.returns-clause-writes
returns-clause-writes c = writes_stay_alike

pub returns-clause-muted_writes : goal.returns-clause-muted_writes
returns-clause-muted_writes c = muted_writes_stay_alike
