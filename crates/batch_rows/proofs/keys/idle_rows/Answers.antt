use Rattle.batch_rows.proofs.keys.idle_rows.Goals as goal

pub returns-clause-polls : goal.returns-clause-polls
returns-clause-polls c j below = rw c.unkeyed.ensures.poll (c.polls_from.ensures j below)
