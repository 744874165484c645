use Rattle.std.proofs.Common.{◌≡◌, length}
use Rattle.cut_form.specs.TextLines.{text_lines}
use Rattle.cut_form.specs.Script.{script_lines}
use Rattle.cut_text.proofs.Growing.{said_after}
use Rattle.cut_text.proofs.Said.{lines_after}
use Rattle.cut_text.proofs.script_reading.read_script.Given as goal

-- the text says the lines so far, and then those that are left
abbrev pub invariant-lines : goal.invariant-lines
invariant-lines l = script_lines l.text ≡ said_after lines_after l.list (text_lines l.rest)

abbrev pub decreases-lines : goal.decreases-lines
decreases-lines l = length l.rest
