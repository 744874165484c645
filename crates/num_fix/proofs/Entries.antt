-- The entries of a list, one by one.
use Rattle.std.proofs.Common.{◌≡◌, ◌∙◌, ℕ, zero, suc, ◌+◌, get_or, List, ◌∷◌, length, drop, ap, arith}
use Rattle.std.specs.Prelude.{map}
use Rattle.std.specs.List.{range_with_len}
use Rattle.std.proofs.lemmas.List.{drop_more}
use Rattle.std.proofs.Math.ListN.{drop_of_length-le}

-- what is left of a list from place i on, n entries, is these entries
pub drop-entries : {X : Type 0} (n i : ℕ) (xs : List X) (d : X) → i + n ≡ length xs → drop i xs ≡ map (λ j. get_or xs j d) (range_with_len i n)
drop-entries zero i xs d is = drop_of_length-le xs (omega arith)
drop-entries {X} (suc n) i xs d is = drop_more xs i d (omega arith) ∙ ap (λ (l : List X). get_or xs i d ∷ l) (drop-entries n (i + 1) xs d (omega arith))
