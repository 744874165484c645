-- Words of the contracts of readers of texts.
use Rattle.std.specs.Prelude.{◌≡◌, ℕ, ◌+◌, ◌^◌, List, [], ◌∷◌, ◌++◌, length, Option, Some, None, Result, Err}
use Rattle.cut_form.specs.TextLines.{max_digits}
use Rattle.cut_text.specs.declared.refusal.TextRefusal.{TextRefusal}
use Rattle.cut_text.specs.declared.refusal.TextRefusal.TheVariants.{Wrong, OutOfMemory}

-- what each number of a text is below, since it has no more digits than it may have
abbrev pub number_bound : ℕ
number_bound = 10 ^ max_digits

-- a refusal for a wrong line has the number of the first one
abbrev pub Reports : {A : Type 0} → TextRefusal → Result A ℕ → Type 0
Reports (Wrong line) said = said ≡ Err line
Reports OutOfMemory said = Unit {0}

-- a list has what the next line says too
abbrev pub OneMore : {A : Type 0} → (old new : List A) → Option A → Type 0
OneMore old new None = ⊥
OneMore old new (Some said) = new ≡ old ++ said ∷ []

-- a refusal of the line after a list of a line each, which says nothing, shows its number
abbrev pub IsWrongAfter : {A : Type 0} → List A → Option A → TextRefusal → Type 0
IsWrongAfter said next (Wrong line) = (next ≡ None) × (line ≡ length said + 1)
IsWrongAfter said next OutOfMemory = Unit {0}
