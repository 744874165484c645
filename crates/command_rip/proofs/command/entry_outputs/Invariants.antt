use Rattle.std.proofs.Common.{◌≡◌, map, take}
use Rattle.command_runner.specs.Listed.{listed_output}
use Rattle.command_rip.specs.Pieces.{to_come_of}
use Rattle.command_rip.specs.Rip.{entry_output}
use Rattle.command_rip.proofs.command.entry_outputs.Given as goal

-- the outputs of the first entries
abbrev pub invariant-loop-entry : goal.invariant-loop-entry
invariant-loop-entry l = map (listed_output to_come_of) l.outputs.items ≡ map (entry_output l.prefix l.memory l.dir) (take l.entry-index l.entries)
