use Rattle.std.proofs.Common.{rules, arith, ◌≡◌, get_or, pos, to_z, of_z, refl}
use Rattle.std.specs.Int.{w16}
use Rattle.std.proofs.lemmas.Option.{get_or_from_slice_get}
use Rattle.gauss_table.specs.Interpolation.{mix}
use Rattle.gauss_table.specs.Quads.{quad_at}
use Rattle.gauss_table.specs.declared.quad.Quad.{Quad}
use Rattle.gauss_table.proofs.taps.Taps.at.Goals as goal

pub returns : goal.returns
unfolding mix
returns c table are_quads =
    let none : Quad = record { oldest = pos 0; older = pos 0; newer = pos 0; newest = pos 0 } in
    let quad : get_or c.args.quads.now c.from.result none ≡ quad_at table c.args.i =
    rw c.from.ensures (get_or_from_slice_get _ c.args.i _ none (are_quads.each c.args.i (omega arith))) in
    let x0 : to_z w16 (of_z w16 c.args.x0) ≡ c.args.x0 = search rules in
    let x1 : to_z w16 (of_z w16 c.args.x1) ≡ c.args.x1 = search rules in
    let x2 : to_z w16 (of_z w16 c.args.x2) ≡ c.args.x2 = search rules in
    let x3 : to_z w16 (of_z w16 c.args.x3) ≡ c.args.x3 = search rules in
    rw (c.new.ensures.oldest, c.new.ensures.older, c.new.ensures.newer, c.new.ensures.newest, quad, x0, x1, x2, x3) refl
