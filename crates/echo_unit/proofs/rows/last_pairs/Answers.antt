use Rattle.std.proofs.Common.{rules, ◌<◌, ◌+◌, ℕ, pos, length, ◌∙◌, arith}
use Rattle.std.proofs.lemmas.List.{length-set}
use Rattle.echo_unit.specs.EchoOverBatch.{pair_of}
use Rattle.echo_unit.proofs.Entries.{with_entry}
use Rattle.echo_unit.proofs.rows.last_pairs.Goals as goal

pub loop-i-init : goal.loop-i-init
loop-i-init c = record { done = λ k below. absurd (omega (arith, below)); long = search rules }

pub loop-i-preserved : goal.loop-i-preserved
loop-i-preserved c =
    let i : ℕ = c.loop-i.i in
    let within : i < length c.loop-i.history = rw c.loop-i.invariant.long c.loop-i-test.true in
    record {
      done = with_entry (λ k. pair_of c.args.left.now c.args.right.now (c.args.n + k)) c.loop-i.history i c.frame_at.result (record { left = pos 0; right = pos 0 }) within
          c.loop-i.invariant.done (rw c.from-first.ensures at c.frame_at.ensures);
      long = length-set c.loop-i.history i c.frame_at.result ∙ c.loop-i.invariant.long;
    }

pub returns : goal.returns
returns c i below = c.loop-i.invariant.done i (omega (arith, below))
