use Rattle.std.proofs.Common.{◌∙◌, sym, ap, List, ℕ, [], ◌++◌, get_or, take}
use Rattle.std.specs.List.{flat_map}
use Rattle.std.proofs.lemmas.List.{flat_map_more, take_more}
use Rattle.command_rip.specs.Rip.{entry_line}
use Rattle.command_rip.proofs.reports.report_on.Goals as goal

pub loop-entry-preserved : goal.loop-entry-preserved
loop-entry-preserved c =
    let line = entry_line c.args.memory.now c.args.dir in
    let entries = c.args.entries.now in
    let i = c.loop-entry.entry-index in
    let entry = get_or entries i 0 in
    c.in_ok-put_entry.ensures
    ∙ ap (λ (l : List ℕ). l ++ line entry) c.loop-entry.invariant
    ∙ flat_map_more line [] (take i entries) entry
    ∙ ap (flat_map line) (sym (take_more entries i 0 c.loop-entry-test.true))
