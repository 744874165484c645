use Rattle.std.proofs.Common.{◌≡◌, ◌*◌, pos, ◌*ℤ◌, to_z, of_z, ◌∙◌, arith}
use Rattle.std.specs.Int.{w16}
use Rattle.std.proofs.lemmas.Int.{ints}
use Rattle.std.proofs.lemmas.List.{get_or-replicate}
use Rattle.voice_batch.proofs.span_phases.doubles_of.Goals as goal

pub returns : goal.returns
returns c j below =
    let whole : to_z w16 (of_z w16 (pos 2 *ℤ to_z w16 c.args.pitch)) ≡ pos (2 * c.args.pitch) = omega (arith, ints, c.requires) in
    get_or-replicate 64 j _ (pos 0) below ∙ whole
