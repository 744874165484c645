-- Two lists that make an empty one are empty.
use Rattle.std.proofs.Common.{◌≡◌, List, [], ◌∷◌, ◌++◌, refl}

pub empty-front : {A : Type 0} (xs ys : List A) → xs ++ ys ≡ [] → xs ≡ []
empty-front [] ys e = refl
empty-front (x ∷ xs) ys e = cc

pub empty-back : {A : Type 0} (xs ys : List A) → xs ++ ys ≡ [] → ys ≡ []
empty-back [] ys e = e
empty-back (x ∷ xs) ys e = cc
