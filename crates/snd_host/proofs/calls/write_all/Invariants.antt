use Rattle.std.proofs.Common.{length, take, ◌-◌, ◌≤◌, List}
use Rattle.snd_host.specs.Calls.{Call}
use Rattle.snd_host.specs.Follows.{AreWrites, Since}
use Rattle.snd_host.proofs.calls.write_all.Given as goal

-- the bytes that are done were written, and no write has failed
abbrev pub invariant-loop-done : goal.invariant-loop-done
invariant-loop-done g l = record {
  within : l.done ≤ length l.piece;
  made : List Call;
  since : Since made (g.H.Host.state l.fn.host) (g.H.Host.state l.host);
  writes : AreWrites l.out.0 (take l.done l.piece) made;
}

abbrev pub decreases-loop-done : goal.decreases-loop-done
decreases-loop-done g l = length l.piece - l.done
