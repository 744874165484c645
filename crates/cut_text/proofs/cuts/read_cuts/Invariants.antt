use Rattle.std.proofs.Common.{◌≡◌, length}
use Rattle.cut_form.specs.TextLines.{text_lines}
use Rattle.cut_form.specs.CutList.{cut_list}
use Rattle.cut_text.proofs.Growing.{said_after}
use Rattle.cut_text.proofs.Listed.{cuts_after}
use Rattle.cut_text.proofs.cuts.read_cuts.Given as goal

-- the text says the cuts so far, and then those of the lines that are left
abbrev pub invariant-lines : goal.invariant-lines
invariant-lines l = cut_list l.text ≡ said_after cuts_after l.list (text_lines l.rest)

abbrev pub decreases-lines : goal.decreases-lines
decreases-lines l = length l.rest
