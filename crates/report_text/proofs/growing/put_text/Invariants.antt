use Rattle.std.proofs.Common.{◌≡◌, ◌++◌, take}
use Rattle.report_text.specs.Texts.{shown_text}
use Rattle.report_text.proofs.growing.put_text.Given as goal

-- the first bytes are printed
abbrev pub invariant-loop-byte : goal.invariant-loop-byte
invariant-loop-byte l = l.report.items ≡ l.fn.report.items ++ shown_text (take l.byte-index l.text)
