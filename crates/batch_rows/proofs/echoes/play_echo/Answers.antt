use Rattle.std.proofs.Common.{◌++◌, ℕ, List, take, ap, sym, ◌∙◌}
use Rattle.num_fix.specs.declared.Frame.{Frame}
use Rattle.echo_unit.specs.EchoOverBatch.{EchoOver}
use Rattle.batch_rows.proofs.echoes.play_echo.Goals as goal

pub returns : goal.returns
returns c = record {
  echo_made = sym (ap (λ (batch : EchoOver). batch.echo) c.play-row.ensures.batch);
  memory_made = sym (ap (λ (batch : EchoOver). batch.memory) c.play-row.ensures.batch);
  frames_made =
      c.extend.ensures
      ∙ ap (λ (n : ℕ). c.args.frames.now ++ take n c.play-row.result) c.from.ensures
      ∙ ap (λ (frames : List Frame). c.args.frames.now ++ frames) (sym (ap (λ (batch : EchoOver). batch.frames) c.play-row.ensures.batch));
}
