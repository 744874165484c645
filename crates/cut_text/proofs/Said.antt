-- What the lines of a text say after a list of lines.
use Rattle.std.proofs.Common.{◌≡◌, ℕ, ◌+◌, List, [], ◌∷◌, ◌++◌, length, refl}
use Rattle.std.specs.Prelude.{Some, Result}
use Rattle.std.proofs.lemmas.List.{length_push}
use Rattle.cut_form.specs.declared.script.ScriptLine.{ScriptLine}
use Rattle.cut_form.specs.Script.{script_from}
use Rattle.cut_form.specs.TextLines.{said_before}
use Rattle.cut_text.proofs.Growing.{IsReader}
use Rattle.cut_text.specs.Scripts.{next_line}

-- the lines of a text after others
abbrev pub lines_after : List ScriptLine → (rest : List (List ℕ)) → Result (List ScriptLine) ℕ
lines_after lines rest = script_from (length lines + 1) rest

pub lines_reader : IsReader lines_after next_line
lines_reader = record { goes_on = goes_on; stops = λ old line rest is. rw (is, script_from) refl }
  where
    goes_on : (old : List ScriptLine) (line : List ℕ) (rest : List (List ℕ)) (said : ScriptLine) → next_line old line ≡ Some said → lines_after old (line ∷ rest) ≡ said_before said (lines_after (old ++ said ∷ []) rest)
    goes_on old line rest said is = rw (is, script_from, length_push old said) refl
