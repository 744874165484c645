use Rattle.std.proofs.Common.{◌≡◌, ◌+◌, ◌≤◌}
use Rattle.reach_map.specs.BlocksToEnd.{blocks_to_end}
use Rattle.reach_map.proofs.voices.blocks_to_end.Given as goal

abbrev pub invariant-loop-left : goal.invariant-loop-left
invariant-loop-left l = record {
  so_far : l.most + blocks_to_end l.memory l.block l.left ≡ l.left + blocks_to_end l.memory l.start l.most;
  within : l.left ≤ l.most;
}

abbrev pub decreases-loop-left : goal.decreases-loop-left
decreases-loop-left l = l.left
