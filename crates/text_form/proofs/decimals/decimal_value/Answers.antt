use Rattle.std.proofs.Common.{arith, ◌<◌}
use Rattle.text_form.proofs.Magnitudes.{below_power}
use Rattle.text_form.proofs.decimals.decimal_value.Goals as goal

pub overflow_mul-value : goal.overflow_mul-value
overflow_mul-value c =
    let few : c.loop-digit.digit-index < 19 = omega (arith, c.loop-digit-test.true, c.requires.few) in
    let below = below_power c.loop-digit.value c.loop-digit.digit-index c.loop-digit.invariant.bound few in
    omega (arith, below)

pub overflow_add-value : goal.overflow_add-value
overflow_add-value c =
    let few : c.loop-digit.digit-index < 19 = omega (arith, c.loop-digit-test.true, c.requires.few) in
    let below = below_power c.loop-digit.value c.loop-digit.digit-index c.loop-digit.invariant.bound few in
    omega (arith, below, c.from.ensures)
