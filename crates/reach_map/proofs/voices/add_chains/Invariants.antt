use Rattle.std.proofs.Common.{◌≡◌, flat_map, take}
use Rattle.reach_map.specs.Added.{with_pages}
use Rattle.reach_map.specs.Reach.{chain_pages}
use Rattle.reach_map.proofs.voices.add_chains.Given as goal

abbrev pub invariant-loop-start : goal.invariant-loop-start
invariant-loop-start l = l.pages ≡ with_pages l.initial.pages (flat_map (chain_pages l.memory) (take l.start-index l.starts))
