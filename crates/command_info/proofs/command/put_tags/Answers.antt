use Rattle.std.proofs.Common.{◌∙◌, sym, ap, List, ℕ, ◌++◌, get_or, take}
use Rattle.std.specs.Prelude.{codes}
use Rattle.std.specs.List.{flat_map}
use Rattle.std.proofs.lemmas.List.{flat_map_more, take_more}
use Rattle.spc_form.specs.declared.tags.Tag.{Tag}
use Rattle.spc_form.specs.declared.tags.Tag.TheVariants.{Title}
use Rattle.command_info.specs.Info.{all_tags, tag_line}
use Rattle.command_info.proofs.command.put_tags.Goals as goal

pub loop-tag-preserved : goal.loop-tag-preserved
loop-tag-preserved c =
    let file = c.args.file.now in
    let i = c.loop-tag.tag-index in
    let tag = get_or all_tags i Title in
    let front = c.args.report.now.items ++ codes "tags yes\n" in
    c.in_ok-put_tag.ensures
    ∙ ap (λ (l : List ℕ). l ++ tag_line file tag) c.loop-tag.invariant
    ∙ flat_map_more (tag_line file) front (take i all_tags) tag
    ∙ ap (λ (l : List Tag). front ++ flat_map (tag_line file) l) (sym (take_more all_tags i Title c.loop-tag-test.true))
