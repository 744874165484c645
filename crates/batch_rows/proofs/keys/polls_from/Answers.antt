use Rattle.std.proofs.Common.{rules, ◌+◌, ◌%◌, ◌==◌, ℕ, false}
use Rattle.std.proofs.lemmas.List.{length-set}
use Rattle.echo_unit.proofs.Entries.{with_entry}
use Rattle.batch_rows.proofs.KeysApart.{poll_of}
use Rattle.batch_rows.proofs.keys.polls_from.Goals as goal

pub loop-j-preserved : goal.loop-j-preserved
loop-j-preserved c =
    let j : ℕ = c.loop-j.j in
    record {
      polls = rw c.from.ensures (with_entry (λ i. (c.args.number + i) % 2 == 0) c.loop-j.polls j (j % 2 == c.args.number % 2) false (rw c.loop-j.invariant.long c.loop-j-test.true)
          c.loop-j.invariant.polls (poll_of c.args.number j));
      long = search (rules, length-set, c.loop-j.invariant.long);
    }
