use Rattle.std.proofs.Common.{arith, rules}
use Rattle.std.proofs.lemmas.Grind.{common_steps}
use Rattle.std.proofs.lemmas.Slice.{take-put_mid, overwrites}
use Rattle.render_files.proofs.rows.put_row.Goals as goal

pub loop-frame-preserved : goal.loop-frame-preserved
loop-frame-preserved c = record {
  here = omega arith;
  size = search (rules, overwrites);
  all = grind (arith, common_steps, take-put_mid);
}
