use Rattle.std.proofs.Common.{rules, arith, ◌≡◌, ◌+ℤ◌, to_z, of_z, ◌∙◌, ap}
use Rattle.std.specs.Int.{w16}
use Rattle.std.proofs.lemmas.Int.{ints}
use Rattle.num_fix.specs.Arithmetic.{clamp16, clear_bit0}
use Rattle.gauss_table.specs.Interpolation.{mix_of}
use Rattle.gauss_table.specs.TapBounds.{AreSmall}
use Rattle.gauss_table.proofs.taps.Taps.mixed.Goals as goal

pub returns : goal.returns
unfolding mix_of
returns c =
    let small : AreSmall c.args.self.now.oldest c.args.self.now.older c.args.self.now.newer c.args.self.now.newest = c.args.self.now.are_small in
    let clamped : c.clamp16.result ≡ clamp16 (c.wrapped.result +ℤ c.args.self.now.newest) = c.clamp16.ensures ∙ ap clamp16 (omega (arith, ints)) in
    let cleared : to_z w16 (of_z w16 c.clear_bit0.result) ≡ clear_bit0 c.clamp16.result = search rules in
    rw (cleared, clamped, c.wrapped.ensures)
