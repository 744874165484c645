use Rattle.std.proofs.Common.{arith, refl}
use Rattle.sample_rip.specs.Rip.{rip_samples}
use Rattle.sample_rip.proofs.reencoding.samples_of.Goals as goal

pub blocks-2-init : goal.blocks-2-init
unfolding rip_samples
blocks-2-init c = record {
  over = c.new-walk.ensures.over c.args.memory.now;
  all = rw (c.in_ok-samples.ensures.items, c.new-walk.ensures.start) refl;
}

pub blocks-2-smaller : goal.blocks-2-smaller
blocks-2-smaller c =
    let passed = c.in-Some.ensures.passed in
    let same = c.in-Some.ensures.same in
    omega (arith, passed, same)
