use Rattle.std.proofs.Common.{◌≡◌, ◌*◌, pos, get_or, arith, rules}
use Rattle.brr_encode.specs.Greedy.{distance}
use Rattle.brr_search.proofs.Reports.{errors_next}
use Rattle.brr_search.proofs.errors.report_of.Goals as goal

pub samples-preserved : goal.samples-preserved
samples-preserved c =
    let next = errors_next c.args.decoded.now c.args.targets.now c.samples.place c.samples-test.true c.requires.as_long in
    let missed = distance (get_or c.args.decoded.now c.samples.place (pos 0)) (get_or c.args.targets.now c.samples.place (pos 0)) in
    let far : c.distance-far.result ≡ missed = search rules in
    let square : c.squared-sum.result ≡ missed * missed = rw (← far) c.squared-sum.ensures.value in
    record {
      worst = omega (arith, next, far, c.max-greatest.ensures, c.samples.invariant.worst);
      squares = omega (arith, next, square, c.samples.invariant.squares);
      bound = omega (arith, c.samples.invariant.bound, c.squared-sum.ensures.bound);
    }
