use Rattle.std.proofs.Common.{◌≡◌, ◌++◌, take}
use Rattle.std.specs.Prelude.{codes}
use Rattle.std.specs.List.{flat_map}
use Rattle.command_info.specs.Info.{all_tags, tag_line}
use Rattle.command_info.proofs.command.put_tags.Given as goal

-- the lines of the first tags are printed
abbrev pub invariant-loop-tag : goal.invariant-loop-tag
invariant-loop-tag l = l.report.items ≡ (l.fn.report.items ++ codes "tags yes\n") ++ flat_map (tag_line l.file) (take l.tag-index all_tags)
