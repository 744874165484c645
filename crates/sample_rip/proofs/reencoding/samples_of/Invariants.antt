use Rattle.std.proofs.Common.{◌≡◌, ◌-◌, ◌++◌}
use Rattle.sample_rip.specs.Rip.{rip_samples}
use Rattle.sample_rip.specs.Walk.{IsWalkOver, samples_ahead}
use Rattle.sample_rip.proofs.reencoding.samples_of.Given as goal

-- the samples so far, and those ahead of the walk, are all
abbrev pub invariant-blocks-2 : goal.invariant-blocks-2
invariant-blocks-2 l = record {
  over : IsWalkOver l.memory l.walk;
  all : l.samples.items ++ samples_ahead l.memory l.walk ≡ rip_samples l.memory l.found;
}

abbrev pub decreases-blocks-2 : goal.decreases-blocks-2
decreases-blocks-2 l = l.walk.blocks - l.walk.passed
