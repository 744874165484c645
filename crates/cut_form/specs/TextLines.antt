-- The lines of a text, and the words of a line (own).
use Rattle.std.specs.Prelude.{ℕ, ◌==◌, List, [], ◌∷◌, map, if◌then◌else◌, Option, Some, None, Result, Ok, Err}
use Rattle.std.specs.List.{slice_split}
use Rattle.std.specs.Str.{byte}
use Rattle.text_form.specs.Decimals.{decimal_value, is_number}

-- a line without the carriage return at its end
abbrev pub without_return : List ℕ → List ℕ
without_return [] = []
without_return (last ∷ []) = if last == byte "\r" then [] else last ∷ []
without_return (first ∷ (next ∷ rest)) = first ∷ without_return (next ∷ rest)

-- what stands after the last line feed is a line only where it isn't empty
abbrev pub without_empty_last : List (List ℕ) → List (List ℕ)
without_empty_last [] = []
without_empty_last ([] ∷ []) = []
without_empty_last ((first ∷ rest) ∷ []) = (first ∷ rest) ∷ []
without_empty_last (part ∷ (next ∷ parts)) = part ∷ without_empty_last (next ∷ parts)

-- Lines end with a line feed; the last one may lack it. A carriage return before a line's end is dropped.
abbrev pub text_lines : (text : List ℕ) → List (List ℕ)
text_lines text = map without_return (without_empty_last (slice_split (λ character. character == byte "\n") text))

-- the words of a line, which one space parts
abbrev pub line_words : (line : List ℕ) → List (List ℕ)
line_words line = slice_split (λ character. character == byte " ") line

-- the most digits of a number
abbrev pub max_digits : ℕ
max_digits = 9

-- the number that a word is
abbrev pub number_of_word : (word : List ℕ) → Option ℕ
number_of_word word = if is_number max_digits word then Some (decimal_value word) else None

-- what a line says before what others say, unless one of theirs is wrong, which has a number
abbrev pub said_before : {A : Type 0} → A → Result (List A) ℕ → Result (List A) ℕ
said_before said (Ok rest) = Ok (said ∷ rest)
said_before said (Err wrong) = Err wrong
