use Rattle.std.proofs.Common.{length, drop, refl, arith, length-take}
use Rattle.snd_host.specs.Memory.{memory_state}
use Rattle.snd_host.proofs.DripCalls.{drip_reads}
use Rattle.snd_host.proofs.drip.DripHostHost.read.Goals as goal

pub returns-clause-made : goal.returns-clause-made
returns-clause-made c =
    let buf = c.args.buf.now in
    let most = c.min-most.result in
    drip_reads c.args.self.now _ (memory_state c.read-outcome.new.self) c.args.file.0 (length buf) _ c.read-outcome.new.buf (drop most buf) c.read-outcome.result
    (λ some. omega (arith, length-take most buf)) (rw (c.read-outcome.auto.buf) c.read-outcome.ensures.within) c.note_read.ensures refl refl c.read-outcome.ensures.made
