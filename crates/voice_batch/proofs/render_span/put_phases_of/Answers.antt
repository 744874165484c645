use Rattle.voice_batch.proofs.Counting.{moves_on}
use Rattle.voice_batch.proofs.render_span.put_phases_of.Goals as goal

pub returns-clause-moves : goal.returns-clause-moves
returns-clause-moves c modulated = moves_on _ c.args.n c.position.result _ c.position.ensures.within c.put_phases.ensures
