-- What a list of cuts says (own).
use Rattle.std.specs.Prelude.{ℕ, ◌+◌, Bool, ◌&&◌, nat_le, if◌then◌else◌, List, [], ◌∷◌, Option, Some, None, Result, Ok, Err}
use Rattle.num_fix.specs.Limits.{max_frames}
use Rattle.cut_form.specs.declared.cut.Cut.{Cut}
use Rattle.cut_form.specs.TextLines.{text_lines, line_words, number_of_word, said_before}

-- the most lines of a list
abbrev pub max_cuts : ℕ
max_cuts = 1000

-- a cut of two numbers
abbrev pub cut_of_numbers : Option ℕ → Option ℕ → Option Cut
cut_of_numbers (Some start) (Some count) = Some (record { start = start; count = count })
cut_of_numbers (Some start) None = None
cut_of_numbers None count = None

-- the cut that the words of a line say: its first sample and how many frames it has
abbrev pub cut_of_words : List (List ℕ) → Option Cut
cut_of_words [] = None
cut_of_words (start ∷ []) = None
cut_of_words (start ∷ (count ∷ [])) = cut_of_numbers (number_of_word start) (number_of_word count)
cut_of_words (start ∷ (count ∷ (more ∷ rest))) = None

-- A cut on the line of a number, after cuts of so many frames, is allowed where it ends within an hour, where all cuts together
-- are an hour at most, and where the list isn't too long.
abbrev pub is_allowed : (number before : ℕ) → Cut → Bool
is_allowed number before cut =
    nat_le (cut.start + cut.count) max_frames && (nat_le (before + cut.count) max_frames && nat_le number max_cuts)

abbrev pub allowed_cut : (number before : ℕ) → Option Cut → Option Cut
allowed_cut number before None = None
allowed_cut number before (Some cut) = if is_allowed number before cut then Some cut else None

-- the cuts of lines, of which the first has a number and stands after cuts of so many frames, or the number of the first wrong line
abbrev pub cuts_from : (number before : ℕ) → List (List ℕ) → Result (List Cut) ℕ
cuts_from number before [] = Ok []
cuts_from number before (line ∷ lines) = elim (allowed_cut number before (cut_of_words (line_words line))) as (λ cut. Result (List Cut) ℕ) [
  | Some cut ↦ said_before cut (cuts_from (number + 1) (before + cut.count) lines)
  | None ↦ Err number
]

-- the cuts that a text lists, or the number of its first wrong line, counted from 1
abbrev pub cut_list : (text : List ℕ) → Result (List Cut) ℕ
cut_list text = cuts_from 1 0 (text_lines text)
