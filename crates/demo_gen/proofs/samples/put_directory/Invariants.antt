use Rattle.std.proofs.Common.{◌≡◌, ◌++◌}
use Rattle.demo_gen.specs.Draws.{joined}
use Rattle.demo_gen.specs.Samples.{directory_entry}
use Rattle.demo_gen.proofs.samples.put_directory.Given as goal

abbrev pub invariant-loop-sample : goal.invariant-loop-sample
invariant-loop-sample l = l.file.items ≡ l.initial.file.items ++ joined l.sample directory_entry
