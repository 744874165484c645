use Rattle.std.proofs.Common.{◌≡◌, ◌+◌, ◌*◌, ◌≤◌, drop, IfSome, ◌<◌}
use Rattle.std.specs.Prelude.{IfSome}
use Rattle.brr_encode.specs.Greedy.{greedy_squares}
use Rattle.brr_encode.proofs.search.squares_below.Given as goal

abbrev pub invariant-samples : goal.invariant-samples
invariant-samples l = record {
  so_far : l.sum + greedy_squares l.header l.last l.before (drop l.target-index l.targets) ≡ greedy_squares l.header l.p1 l.p2 l.targets;
  bound : l.sum ≤ l.target-index * 0x100000000;
  below : IfSome l.limit (λ limit. l.sum < limit);
}
