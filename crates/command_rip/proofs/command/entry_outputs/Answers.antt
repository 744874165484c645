use Rattle.std.proofs.Common.{◌∙◌, sym, ap, [], ◌∷◌, ◌++◌, get_or, take, map}
use Rattle.std.proofs.lemmas.List.{map-append, take_more}
use Rattle.command_runner.specs.Listed.{listed_output}
use Rattle.command_rip.specs.Pieces.{to_come_of}
use Rattle.command_rip.specs.Rip.{entry_output}
use Rattle.command_rip.proofs.command.entry_outputs.Goals as goal

pub loop-entry-preserved : goal.loop-entry-preserved
loop-entry-preserved c =
    let makes = listed_output to_come_of in
    let output = entry_output c.args.prefix.now c.args.memory.now c.args.dir in
    let entries = c.args.entries.now in
    let i = c.loop-entry.entry-index in
    ap (map makes) c.in_ok-push.ensures.items
    ∙ map-append makes c.loop-entry.outputs.items _
    ∙ (λ j. c.loop-entry.invariant j ++ c.in_ok-entry_output.ensures j ∷ [])
    ∙ sym (map-append output (take i entries) (get_or entries i 0 ∷ []))
    ∙ ap (map output) (sym (take_more entries i 0 c.loop-entry-test.true))
