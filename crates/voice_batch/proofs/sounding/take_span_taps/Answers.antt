use Rattle.std.proofs.Common.{slice_index, arith}
use Rattle.voice_batch.specs.SpanPhases.{MoveOn, phase_at}
use Rattle.voice_batch.proofs.Counting.{far}
use Rattle.voice_batch.proofs.sounding.take_span_taps.Goals as goal

pub take_modulated_taps-requires-clause-within : goal.take_modulated_taps-requires-clause-within
unfolding phase_at
take_modulated_taps-requires-clause-within c j below =
    let moves : MoveOn (slice_index c.args.span_phases.now.phases.now) c.args.n = rw c.if-span_phases.true at c.requires.span_phases.moves in
    omega (arith, far (slice_index c.args.span_phases.now.phases.now) c.args.n moves j (omega (arith, below)), c.requires.few, below)
