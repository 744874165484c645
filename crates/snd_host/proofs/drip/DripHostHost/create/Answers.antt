use Rattle.std.proofs.Common.{refl}
use Rattle.snd_host.specs.Calls.{create_call}
use Rattle.snd_host.specs.Memory.{memory_state}
use Rattle.snd_host.specs.declared.host.OutFile.{OutFile}
use Rattle.snd_host.proofs.DripCalls.{drip_makes_same}
use Rattle.snd_host.proofs.drip.DripHostHost.create.Goals as goal

pub returns-clause-made : goal.returns-clause-made
returns-clause-made c =
    drip_makes_same c.args.self.now (create_call (λ (file : OutFile). file.0) c.args.name.now c.create-outcome.result) _ (memory_state c.create-outcome.new.self) c.note_create.ensures refl refl c.create-outcome.ensures.made
