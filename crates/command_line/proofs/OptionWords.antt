-- Options with values, word by word.
use Rattle.std.proofs.Common.{◌≡◌, sym, ℕ, ◌-◌, ◌≤◌, List, [], ◌∷◌, length, take, drop, map, get_or, Option, Some, arith}
use Rattle.std.proofs.lemmas.List.{take_rest}
use Rattle.command_line.specs.Options.{options_from}

-- two words more are one option more
pub next_options : {T X : Type 0} (add : T → List ℕ → List ℕ → Option T) (f : X → List ℕ) (o : T) (rest : List X) (name value : X) → 2 ≤ length rest → name ≡ get_or rest 0 name → value ≡ get_or rest 1 value →
    options_from add (Some o) (map f rest) ≡ options_from add (add o (f name) (f value)) (map f (take (length rest - 2) (drop 2 rest)))
next_options add f o [] name value two first second = absurd (omega arith)
next_options add f o (a ∷ []) name value two first second = absurd (omega arith)
next_options add f o (a ∷ b ∷ rest) name value two first second =
    λ i. options_from add (add o (f (sym first i)) (f (sym second i))) (map f (sym (take_rest (a ∷ b ∷ rest) 2) i))
