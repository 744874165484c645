use Rattle.std.proofs.Common.{rules, ◌≡◌, pos, to_z, of_z, w16, get_or, arith}
use Rattle.std.proofs.lemmas.Grind.{common_steps}
use Rattle.brr_encode.specs.Greedy.{distance, nearest_sample}
use Rattle.brr_encode.proofs.Costs.{squares_carried}
use Rattle.brr_encode.proofs.search.squares_below.Goals as goal

pub samples-preserved : goal.samples-preserved
samples-preserved c =
    let target = get_or c.args.targets.now c.samples.target-index (pos 0) in
    let kept : to_z w16 (of_z w16 c.nearest-choice.result.sample) ≡ nearest_sample c.args.header target c.samples.last c.samples.before = search rules in
    let carried : to_z w16 c.samples.last-bits ≡ c.samples.last = search rules in
    let far : c.nearest-choice.result.distance ≡ distance (nearest_sample c.args.header target c.samples.last c.samples.before) target = search rules in
    record {
      so_far = squares_carried _ _ _ _ _ _ _ _ _ _ c.samples-test.true kept carried (rw (← far) c.squared-sum.ensures.value) (rw (← c.samples.last-is, ← c.samples.before-is) c.samples.invariant.so_far);
      bound = omega (arith, c.samples.invariant.bound, c.squared-sum.ensures.bound);
      below = search rules;
    }

pub returns-clause-squares : goal.returns-clause-squares
returns-clause-squares c = grind (arith, common_steps)

pub returns-then-has_reached-2-clause-too_much : goal.returns-then-has_reached-2-clause-too_much
returns-then-has_reached-2-clause-too_much c = grind (arith, common_steps)
