use Rattle.std.proofs.Common.{◌≡◌, flat_map, take}
use Rattle.reach_map.specs.Added.{with_pages}
use Rattle.reach_map.specs.Reach.{entry_pages}
use Rattle.reach_map.proofs.voices.add_entries.Given as goal

abbrev pub invariant-loop-entry : goal.invariant-loop-entry
invariant-loop-entry l = l.pages ≡ with_pages l.initial.pages (flat_map entry_pages (take l.entry-index l.entries))
