use Rattle.std.proofs.Common.{rules, ◌<◌, ℕ, pos, length, refl, ◌∙◌, arith}
use Rattle.std.proofs.lemmas.List.{length-set}
use Rattle.echo_unit.specs.Echo.{output_frame}
use Rattle.echo_unit.specs.EchoOverBatch.{pair_of}
use Rattle.echo_unit.proofs.Entries.{with_entry}
use Rattle.echo_unit.proofs.rows.row_of_frames.Goals as goal

pub loop-j-init : goal.loop-j-init
loop-j-init c = record { done = λ i below. absurd (omega (arith, below)); long = search rules }

pub loop-j-preserved : goal.loop-j-preserved
loop-j-preserved c =
    let j : ℕ = c.loop-j.j in
    let within : j < length c.loop-j.frames = rw c.loop-j.invariant.long c.loop-j-test.true in
    record {
      done = with_entry (pair_of c.row_of_outputs-left.result c.row_of_outputs-right.result) c.loop-j.frames j
          c.frame_at.result (record { left = pos 0; right = pos 0 }) within c.loop-j.invariant.done c.frame_at.ensures;
      long = length-set c.loop-j.frames j c.frame_at.result ∙ c.loop-j.invariant.long;
    }

pub returns : goal.returns
unfolding output_frame
returns c unmuted j below =
    c.loop-j.invariant.done j (omega (arith, below))
    ∙ rw (unmuted, c.row_of_outputs-left.ensures j below, c.row_of_outputs-right.ensures j below) refl
