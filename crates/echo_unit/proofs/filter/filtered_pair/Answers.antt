use Rattle.std.proofs.Common.{rules, ◌≡◌, length, map, to_z, of_z, refl, ◌∙◌}
use Rattle.std.specs.Int.{w16}
use Rattle.std.proofs.lemmas.List.{length-map}
use Rattle.num_fix.specs.declared.Frame.{Frame}
use Rattle.echo_unit.specs.Echo.{filtered_pair}
use Rattle.echo_unit.proofs.Entries.{take_all}
use Rattle.echo_unit.proofs.filter.filtered_pair.Goals as goal

pub returns : goal.returns
unfolding filtered_pair
returns c =
    let eight : length c.args.pairs.now ≡ 8 = search rules in
    let left = take_all (map (λ (pair : Frame). pair.left) c.args.pairs.now) 8 (length-map c.args.pairs.now (λ (pair : Frame). pair.left) ∙ eight) in
    let right = take_all (map (λ (pair : Frame). pair.right) c.args.pairs.now) 8 (length-map c.args.pairs.now (λ (pair : Frame). pair.right) ∙ eight) in
    let whole : to_z w16 (of_z w16 c.filtered_sample.result) ≡ c.filtered_sample.result = search rules in
    let whole' : to_z w16 (of_z w16 c.filtered_sample-2.result) ≡ c.filtered_sample-2.result = search rules in
    rw (whole, whole', c.filtered_sample.ensures, c.filtered_sample-2.ensures, c.lefts.ensures, c.rights.ensures, left, right) refl
