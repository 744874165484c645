-- A list of lines while a script is read: it grows by a line of the text.
use Rattle.std.specs.Prelude.{ℕ, ◌+◌, List, length, Option}
use Rattle.cut_form.specs.declared.script.ScriptLine.{ScriptLine}
use Rattle.cut_form.specs.Script.{line_said}

-- what the next line after others says
abbrev pub next_line : List ScriptLine → (line : List ℕ) → Option ScriptLine
next_line lines line = line_said (length lines + 1) line
