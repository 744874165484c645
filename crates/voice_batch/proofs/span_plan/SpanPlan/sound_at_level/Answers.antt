use Rattle.std.proofs.Common.{◌≡◌, ◌+◌, Bool, true, false, pos, slice_index, ◌∙◌, arith}
use Rattle.voice_batch.specs.OutsOverRow.{out_in_span}
use Rattle.voice_batch.specs.SpanPhases.{phase_at}
use Rattle.voice_unit.proofs.Silence.{silence}
use Rattle.voice_batch.proofs.span_plan.SpanPlan.sound_at_level.Goals as goal

pub returns-then-level-eq0-clause-outs : goal.returns-then-level-eq0-clause-outs
returns-then-level-eq0-clause-outs c j below =
    let quiet : c.args.self.now.envelope.level ≡ 0 = omega arith in
    rw quiet (c.put_silence.ensures.outs j below ∙ by c.args.self.now.noisy)
  where
    by : (b : Bool) → pos 0
        ≡ out_in_span b (slice_index c.args.reads.now.rows.now.noise (c.args.at + j)) c.args.reads.now.table.now c.args.row.now (phase_at c.args.self.now.span_phases j) 0
    by true = silence _
    by false = silence _
