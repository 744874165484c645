-- A line of more than two words.
use Rattle.std.proofs.Common.{◌≡◌, ℕ, ◌+◌, List, [], ◌∷◌, length, ap, sym, ◌∙◌, arith}
use Rattle.std.specs.Prelude.{◌==◌, Option, Some, None}
use Rattle.std.specs.List.{slice_split}
use Rattle.std.proofs.lemmas.List.Splits.{length-slice_split}
use Rattle.text_form.specs.Parts.{parts_left}

-- three words and more say nothing
abbrev TooMany : {A : Type 0} → (List (List ℕ) → Option A) → Type 0
TooMany said = (name word third : List ℕ) (rest : List (List ℕ)) → said (name ∷ (word ∷ (third ∷ rest))) ≡ None

too_many : {A : Type 0} (said : List (List ℕ) → Option A) → TooMany said → (name word : List ℕ) (more : List (List ℕ)) (n : ℕ) → length more ≡ n + 1 →
    said (name ∷ (word ∷ more)) ≡ None
too_many said nothing name word [] n few = absurd (omega (arith, few))
too_many said nothing name word (third ∷ rest) n few = nothing name word third rest

-- a line whose second word has a space after it
pub third_word : {A : Type 0} (said : List (List ℕ) → Option A) → TooMany said → (name rest word after : List ℕ) (more : Option (List ℕ)) →
    slice_split (λ character. character == 32) rest ≡ word ∷ parts_left 32 more → more ≡ Some after → None ≡ said (name ∷ slice_split (λ character. character == 32) rest)
third_word said nothing name rest word after more first is =
    let words : slice_split (λ character. character == 32) rest ≡ word ∷ slice_split (λ character. character == 32) after =
    first ∙ ap (λ (r : Option (List ℕ)). word ∷ parts_left 32 r) is in
    sym (ap (λ (w : List (List ℕ)). said (name ∷ w)) words
    ∙ too_many said nothing name word (slice_split (λ character. character == 32) after) _ (length-slice_split (λ character. character == 32) after))
