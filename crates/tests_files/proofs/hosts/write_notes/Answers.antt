use Rattle.std.proofs.Common.{◌∙◌}
use Rattle.command_runner.proofs.Flags.{writes_keep_flags}
use Rattle.tests_files.proofs.hosts.write_notes.Goals as goal

pub returns : goal.returns
returns c =
    writes_keep_flags _ _ _ _ _ c.write_all-4.ensures ∙ writes_keep_flags _ _ _ _ _ c.write_all-3.ensures
    ∙ writes_keep_flags _ _ _ _ _ c.write_all-2.ensures ∙ writes_keep_flags _ _ _ _ _ c.write_all.ensures
