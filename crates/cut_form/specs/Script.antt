-- What a script says (own).
use Rattle.std.specs.Prelude.{ℕ, ◌+◌, nat_le, if◌then◌else◌, List, [], ◌∷◌, Option, Some, None, Result, Ok, Err, codes}
use Rattle.std.specs.Str.{bytes_eq}
use Rattle.num_fix.specs.Limits.{max_frames}
use Rattle.cut_form.specs.declared.script.ScriptLine.{ScriptLine}
use Rattle.cut_form.specs.declared.script.ScriptLine.TheVariants.{Seek, Play, Mark, Drop, Free}
use Rattle.cut_form.specs.TextLines.{text_lines, line_words, number_of_word, said_before}

-- the most lines of a script
abbrev pub max_script_lines : ℕ
max_script_lines = 100000

-- a line with a number, which is an hour of sound at most
abbrev pub numbered_line : (ℕ → ScriptLine) → Option ℕ → Option ScriptLine
numbered_line line None = None
numbered_line line (Some n) = if nat_le n max_frames then Some (line n) else None

-- what the words of a line say
abbrev pub line_of_words : List (List ℕ) → Option ScriptLine
line_of_words [] = None
line_of_words (name ∷ []) = if bytes_eq name (codes "mark") then Some Mark else if bytes_eq name (codes "free") then Some Free else None
line_of_words (name ∷ (number ∷ [])) =
    if bytes_eq name (codes "seek") then numbered_line Seek (number_of_word number)
    else if bytes_eq name (codes "play") then numbered_line Play (number_of_word number)
    else if bytes_eq name (codes "drop") then numbered_line Drop (number_of_word number)
    else None
line_of_words (name ∷ (number ∷ (more ∷ rest))) = None

-- what the line of a number says; a script has no more lines than it may have
abbrev pub line_said : (number : ℕ) → (line : List ℕ) → Option ScriptLine
line_said number line = if nat_le number max_script_lines then line_of_words (line_words line) else None

-- what lines say, the first of which has a number, or the number of the first wrong one
abbrev pub script_from : (number : ℕ) → List (List ℕ) → Result (List ScriptLine) ℕ
script_from number [] = Ok []
script_from number (line ∷ lines) = elim (line_said number line) as (λ said. Result (List ScriptLine) ℕ) [
  | Some said ↦ said_before said (script_from (number + 1) lines)
  | None ↦ Err number
]

-- the lines of a script, or the number of its first wrong line, counted from 1
abbrev pub script_lines : (text : List ℕ) → Result (List ScriptLine) ℕ
script_lines text = script_from 1 (text_lines text)
