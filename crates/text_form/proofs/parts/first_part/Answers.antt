use Rattle.std.proofs.Common.{ℕ, sym}
use Rattle.std.specs.Prelude.{◌==◌}
use Rattle.text_form.proofs.Places.{split_at_place, split_none}
use Rattle.text_form.proofs.parts.first_part.Goals as goal

pub returns-in-Some-clause-parts : goal.returns-in-Some-clause-parts
returns-in-Some-clause-parts c =
    rw (c.split_at.ensures.front, c.split_at-in-Some.ensures.back)
    (split_at_place (λ (other : ℕ). other == c.args.character) c.args.text.now c.in-Some.place (sym c.in-Some.ensures.place))

pub returns-in-None-clause-parts : goal.returns-in-None-clause-parts
returns-in-None-clause-parts c = split_none _ c.args.text.now (sym c.in-None.ensures.place)
