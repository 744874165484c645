use Rattle.std.proofs.Common.{rules, ◌≡◌, ◌∙◌, ap, sym, subst, length, List, Bool, Some}
use Rattle.std.specs.Prelude.{slice_get, false}
use Rattle.command_runner.proofs.Flags.{writes_keep_flags, finish_counts}
use Rattle.tests_files.proofs.hosts.write_and_end.Goals as goal

pub finish-requires : goal.finish-requires
finish-requires c = record { created = search rules; open_yet = subst (λ (l : List Bool). slice_get l 0 ≡ Some false) (sym (writes_keep_flags _ _ _ _ _ c.write_all.ensures)) c.requires }

pub returns : goal.returns
returns c = finish_counts _ _ _ _ c.finish.ensures.made ∙ ap (length {A = Bool}) (writes_keep_flags _ _ _ _ _ c.write_all.ensures)
