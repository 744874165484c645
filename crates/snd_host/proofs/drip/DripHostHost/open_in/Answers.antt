use Rattle.std.proofs.Common.{refl}
use Rattle.snd_host.specs.Calls.{open_call}
use Rattle.snd_host.specs.Memory.{memory_state}
use Rattle.snd_host.specs.declared.host.InFile.{InFile}
use Rattle.snd_host.proofs.DripCalls.{drip_makes_same}
use Rattle.snd_host.proofs.drip.DripHostHost.open_in.Goals as goal

pub returns-clause-made : goal.returns-clause-made
returns-clause-made c =
    drip_makes_same c.args.self.now (open_call (λ (file : InFile). file.0) c.args.name.now c.open_in-outcome.result) _ (memory_state c.open_in-outcome.new.self) c.note_open.ensures refl refl c.open_in-outcome.ensures.made
