use Rattle.std.proofs.Common.{refl}
use Rattle.disk_host.proofs.Outputs.{holds_same, same_outputs}
use Rattle.disk_host.proofs.host.DiskHostHost.read.Goals as goal

pub returns-clause-made : goal.returns-clause-made
returns-clause-made g c = record { calls = c.read_input.ensures.calls; holds = refl; true = λ files known. absurd (cc); steady = λ rooms known. absurd (cc) }

pub returns-clause-held : goal.returns-clause-held
returns-clause-held g c = holds_same g.D.Disk.held _ _ _ _ c.read_input.ensures.created c.read_input.ensures.texts

pub returns-clause-outputs : goal.returns-clause-outputs
returns-clause-outputs g c = same_outputs g.D.Disk.number _ _ c.read_input.ensures.created
