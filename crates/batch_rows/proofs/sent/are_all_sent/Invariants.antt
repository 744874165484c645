use Rattle.std.proofs.Common.{◌≡◌, map, take}
use Rattle.batch_rows.specs.Sent.{sent_whole}
use Rattle.batch_rows.proofs.sent.are_all_sent.Given as goal

abbrev pub invariant-loop-v : goal.invariant-loop-v
invariant-loop-v l = map sent_whole (take l.v l.volumes) ≡ take l.v l.volumes
