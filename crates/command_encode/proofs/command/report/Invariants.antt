use Rattle.std.proofs.Common.{◌≡◌, take}
use Rattle.command_encode.specs.Encode.{block_lines}
use Rattle.command_encode.proofs.command.report.Given as goal

-- the lines of the first blocks are printed
abbrev pub invariant-loop-place : goal.invariant-loop-place
invariant-loop-place l = l.report.items ≡ block_lines 0 (take l.place l.blocks)
