use Rattle.voice_batch.proofs.RenderedSpan.{span_phases_move}
use Rattle.voice_batch.proofs.render_span.span_plan.Goals as goal

pub returns-clause-span_plan : goal.returns-clause-span_plan
returns-clause-span_plan c = record {
  voice = c.requires.voice;
  span_phases = record {
    position = c.position.ensures.within;
    pitch = c.requires.pitch;
    moves = span_phases_move _ c.args.n c.position.ensures.within c.requires.pitch (λ modulated. c.requires.phases (rw c.is_modulated.ensures at modulated));
  };
  group = c.place_of.ensures.group;
}
