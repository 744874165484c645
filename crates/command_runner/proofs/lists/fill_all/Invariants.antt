use Rattle.std.proofs.Common.{◌≡◌, ◌+◌, ◌++◌, List, length, map}
use Rattle.std.specs.Vec.Iter.{into_iter_items, into_iter_len}
use Rattle.snd_host.specs.Calls.{Call}
use Rattle.snd_host.specs.Follows.{Since}
use Rattle.snd_host.specs.History.{ended_of}
use Rattle.command_runner.specs.Listed.{listed_output}
use Rattle.command_runner.specs.OutputCalls.{MakesInTurn}
use Rattle.command_runner.proofs.lists.fill_all.Given as goal

-- the outputs so far were made, and these are left
abbrev pub invariant-loop-output : goal.invariant-loop-output
invariant-loop-output g l = record {
  split : l.yielded ++ into_iter_items l.output-iterator ≡ l.fn.outputs.items;
  count : into_iter_len l.output-iterator ≡ length (into_iter_items l.output-iterator);
  calls : List Call;
  since : Since calls (g.H.Host.state l.fn.host) (g.H.Host.state l.host);
  makes : MakesInTurn (length (ended_of (g.H.Host.state l.fn.host).calls) + 2) (map (listed_output g.P.Pieces.to_come) l.yielded) calls;
}
