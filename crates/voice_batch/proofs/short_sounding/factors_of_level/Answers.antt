use Rattle.std.proofs.Common.{rules, ◌≡◌, pos, to_z, of_z, ◌∙◌}
use Rattle.std.specs.Int.{w16}
use Rattle.std.proofs.lemmas.List.{get_or-replicate}
use Rattle.gauss_table.specs.Factors.{factor_of}
use Rattle.voice_batch.proofs.short_sounding.factors_of_level.Goals as goal

pub returns : goal.returns
returns c i below =
    let whole : to_z w16 (of_z w16 c.factor_of-factor.result) ≡ factor_of (pos c.args.level) = search rules in
    get_or-replicate 8 i _ (pos 0) below ∙ whole
