use Rattle.std.proofs.Common.{ℤ, FitsSigned, sym, subst, ap, ◌∙◌}
use Rattle.std.specs.Int.{w16, cast_signed, cast_unsigned}
use Rattle.std.proofs.lemmas.Int.{to_z-of_z}
use Rattle.render_core.specs.Fade.{faded_side}
use Rattle.render_core.proofs.FadedFrames.{computed_side, faded_side-fits}
use Rattle.render_core.proofs.fade.faded_side.Goals as goal

pub overflow_cast-result : goal.overflow_cast-result
overflow_cast-result c =
    subst (λ (z : ℤ). FitsSigned w16 z) (sym (computed_side _ _ _ c.args.side c.args.after c.args.fade (c.from.ensures ∙ to_z-of_z w16 c.args.side c.ranges.side) c.from-2.ensures c.from-3.ensures c.ranges.side c.requires c.ranges.fade.fits))
    (faded_side-fits c.args.side c.args.after c.args.fade c.ranges.side c.requires)

pub returns : goal.returns
returns c =
    ap (λ (z : ℤ). cast_signed w16 (cast_unsigned w16 z)) (computed_side _ _ _ c.args.side c.args.after c.args.fade (c.from.ensures ∙ to_z-of_z w16 c.args.side c.ranges.side) c.from-2.ensures c.from-3.ensures c.ranges.side c.requires c.ranges.fade.fits)
    ∙ to_z-of_z w16 (faded_side c.args.side c.args.after c.args.fade) (faded_side-fits c.args.side c.args.after c.args.fade c.ranges.side c.requires)
