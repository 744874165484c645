use Rattle.std.proofs.Common.{◌<◌, refl}
use Rattle.dsp_state.specs.Results.{next_endx}
use Rattle.batch_rows.proofs.EchoOver.{endx_after-more}
use Rattle.batch_rows.proofs.endx.endx_of_batch.Goals as goal

pub loop-j-preserved : goal.loop-j-preserved
unfolding next_endx
loop-j-preserved c = record {
  endx = λ answers bits.
      let few : c.loop-j.j < c.args.n = c.loop-j-test.true in
      let place = c.from.ensures in
      rw (endx_after-more, ← c.loop-j.invariant.endx answers bits, ← bits.ended c.loop-j.j few, ← bits.keyed c.loop-j.j few, c.next_endx-now.ensures, c.keyed_in.ensures, place) refl;
}
