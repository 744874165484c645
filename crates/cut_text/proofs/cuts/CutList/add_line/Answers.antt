use Rattle.std.proofs.Common.{List, ◌∙◌, ap, sym}
use Rattle.cut_form.specs.declared.cut.Cut.{Cut}
use Rattle.cut_text.specs.Cuts.{fits_after}
use Rattle.cut_text.proofs.Listed.{listed_more}
use Rattle.cut_text.proofs.cuts.CutList.add_line.Goals as goal

pub invariant_of-self-then-fits_after : goal.invariant_of-self-then-fits_after
invariant_of-self-then-fits_after c =
    listed_more c.self.inside.cuts.items _ c.self.inside.samples c.in-Some.cut c.self.invariant c.in_ok-add-in-Some.ensures.added (ap (λ (cuts : List Cut). fits_after cuts c.in-Some.cut) c.self.view_is ∙ sym c.fits_after.ensures ∙ c.if-fits_after.true)
