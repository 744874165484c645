use Rattle.std.proofs.Common.{◌+ℤ◌, ap, ◌∙◌, arith, of_z}
use Rattle.std.specs.Int.{int_wrap, w16}
use Rattle.std.proofs.lemmas.Int.{ints, to_z-of_z, wrapping_add_onto}
use Rattle.num_fix.specs.Arithmetic.{wrap16}
use Rattle.echo_unit.proofs.wrapped.wrapped_sum.Goals as goal

pub returns : goal.returns
unfolding wrap16 int_wrap
returns c =
    wrapping_add_onto w16 (of_z w16 c.args.a) c.args.b (omega (arith, ints)) c.ranges.b
    ∙ ap (λ z. int_wrap w16 (z +ℤ c.args.b)) (to_z-of_z w16 c.args.a c.ranges.a)
