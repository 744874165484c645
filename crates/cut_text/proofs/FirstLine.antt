-- The first line of a text.
use Rattle.std.proofs.Common.{◌≡◌, ℕ, ◌+◌, ◌++◌, List, [], ◌∷◌, length, map, refl, ap, sym, ◌∙◌, arith}
use Rattle.std.specs.Prelude.{◌==◌, Option, Some}
use Rattle.std.specs.List.{slice_split}
use Rattle.std.proofs.lemmas.List.Splits.{length-slice_split}
use Rattle.std.proofs.lemmas.Grind.{common_steps}
use Rattle.cut_form.specs.TextLines.{text_lines, without_return, without_empty_last}
use Rattle.text_form.specs.Parts.{parts_left}

-- a part before others is a line
line_before : (part next : List ℕ) (parts : List (List ℕ)) → without_empty_last (part ∷ (next ∷ parts)) ≡ part ∷ without_empty_last (next ∷ parts)
line_before [] next parts = refl
line_before (x ∷ xs) next parts = refl

lines_ahead : (line : List ℕ) (parts : List (List ℕ)) (n : ℕ) → length parts ≡ n + 1 →
    map without_return (without_empty_last (line ∷ parts)) ≡ without_return line ∷ map without_return (without_empty_last parts)
lines_ahead line [] n few = absurd (omega (arith, few))
lines_ahead line (next ∷ parts) n few = ap (map without_return) (line_before line next parts)

line_of_more : (text line after : List ℕ) → slice_split (λ character. character == 10) text ≡ line ∷ slice_split (λ character. character == 10) after →
    text_lines text ≡ without_return line ∷ text_lines after
line_of_more text line after split =
    ap (λ (parts : List (List ℕ)). map without_return (without_empty_last parts)) split
    ∙ lines_ahead line (slice_split (λ character. character == 10) after) _ (length-slice_split (λ character. character == 10) after)

-- the same by the first part of the text and what stands after it
pub line_of_parts : (text line after : List ℕ) (rest : Option (List ℕ)) → rest ≡ Some after →
    slice_split (λ character. character == 10) text ≡ line ∷ parts_left 10 rest → text_lines text ≡ without_return line ∷ text_lines after
line_of_parts text line after rest is split = line_of_more text line after (split ∙ ap (λ (r : Option (List ℕ)). line ∷ parts_left 10 r) is)

without_13 : (front : List ℕ) → without_return (front ++ 13 ∷ []) ≡ front
without_13 [] = refl
without_13 (x ∷ []) = refl
without_13 (x ∷ (y ∷ rest)) = ap (λ (l : List ℕ). x ∷ l) (without_13 (y ∷ rest))

alone : (last : ℕ) → (last ≡ 13 → ⊥) → without_return (last ∷ []) ≡ last ∷ []
alone last other = grind (arith, common_steps)

without_other : (front : List ℕ) (last : ℕ) → (last ≡ 13 → ⊥) → without_return (front ++ last ∷ []) ≡ front ++ last ∷ []
without_other [] last other = alone last other
without_other (x ∷ []) last other = ap (λ (l : List ℕ). x ∷ l) (alone last other)
without_other (x ∷ (y ∷ rest)) last other = ap (λ (l : List ℕ). x ∷ l) (without_other (y ∷ rest) last other)

pub return_dropped : (line front : List ℕ) (last : ℕ) → line ≡ front ++ last ∷ [] → last ≡ 13 → front ≡ without_return line
return_dropped line front last is here = sym (ap without_return (is ∙ ap (λ (n : ℕ). front ++ n ∷ []) here) ∙ without_13 front)

pub nothing_dropped : (line front : List ℕ) (last : ℕ) → line ≡ front ++ last ∷ [] → (last ≡ 13 → ⊥) → line ≡ without_return line
nothing_dropped line front last is other = is ∙ sym (ap without_return is ∙ without_other front last other)
