use Rattle.std.proofs.Common.{arith}
use Rattle.voice_batch.proofs.render_span.render_span.Goals as goal

pub returns-then-has_free_envelope-clause-played : goal.returns-then-has_free_envelope-clause-played
returns-then-has_free_envelope-clause-played c lane before can =
    c.play_span.ensures.played lane before
    (record { over = can.over; plainly = λ i since below. can.plainly i since (omega (arith, below, c.requires.from)); played = can.played })

pub returns-then-has_free_envelope-clause-level : goal.returns-then-has_free_envelope-clause-level
returns-then-has_free_envelope-clause-level c lane before can some =
    c.play_span.ensures.level lane before
    (record { over = can.over; plainly = λ i since below. can.plainly i since (omega (arith, below, c.requires.from)); played = can.played })
