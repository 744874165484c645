use Rattle.std.proofs.Common.{refl}
use Rattle.snd_host.specs.Calls.{finish_call}
use Rattle.snd_host.specs.Memory.{memory_state}
use Rattle.snd_host.proofs.DripCalls.{drip_makes_same}
use Rattle.snd_host.proofs.drip.DripHostHost.finish.Goals as goal

pub returns-clause-made : goal.returns-clause-made
returns-clause-made c =
    drip_makes_same c.args.self.now (finish_call c.args.file.0 c.finish-outcome.result) _ (memory_state c.finish-outcome.new.self) c.note_finish.ensures refl refl c.finish-outcome.ensures.made
