use Rattle.std.proofs.Common.{rules, ◌≡◌, pos, to_z, of_z, ◌∙◌}
use Rattle.std.specs.Int.{w16}
use Rattle.std.proofs.lemmas.List.{get_or-replicate}
use Rattle.echo_unit.proofs.parts.row_of.Goals as goal

pub returns : goal.returns
returns c j below =
    let whole : to_z w16 (of_z w16 c.args.factor) ≡ c.args.factor = search rules in
    get_or-replicate 64 j _ (pos 0) below ∙ whole
