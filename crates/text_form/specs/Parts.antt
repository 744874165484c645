-- Texts that are split at a character.
use Rattle.std.specs.Prelude.{ℕ, ◌==◌, List, [], Option, Some, None}
use Rattle.std.specs.List.{slice_split}

-- what is left of a text, split at a character; no parts where nothing is left
abbrev pub parts_left : (character : ℕ) → Option (List ℕ) → List (List ℕ)
parts_left character None = []
parts_left character (Some text) = slice_split (λ other. other == character) text
