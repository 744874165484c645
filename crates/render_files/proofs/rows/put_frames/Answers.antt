use Rattle.std.proofs.Common.{length-append, arith, ◌∙◌}
use Rattle.render_files.proofs.RowBytes.{length-frames, row_added}
use Rattle.render_files.proofs.rows.put_frames.Goals as goal

pub rows-preserved : goal.rows-preserved
rows-preserved c = record {
  within = omega arith;
  room = grind (arith, length-append, length-frames, c.put_row.ensures, c.min-end.ensures, c.rows.invariant.room);
  all = row_added c.rows.wave c.put_row.new.wave c.args.frames.now c.rows.at c.min-end.result (omega arith) c.put_row.ensures ∙ c.rows.invariant.all;
}
