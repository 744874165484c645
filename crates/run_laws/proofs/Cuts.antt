-- Without inputs there is no call for one to fail.
use Rattle.std.proofs.Common.{◌≡◌, ℕ, List, [], ◌∷◌, ◌++◌}
use Rattle.snd_host.specs.Calls.{Call}
use Rattle.snd_host.specs.Follows.{IsCut}
use Rattle.command_runner.specs.NamedInputs.{TakesInOrder}

not_empty : {A : Type 0} (xs : List A) (y : A) (ys : List A) → xs ++ y ∷ ys ≡ [] → ⊥
not_empty [] y ys none = absurd (cc)
not_empty (x ∷ xs) y ys none = absurd (cc)

pub no_cut : (given : List (List ℕ)) (taken : List Call) → IsCut (TakesInOrder [] given) taken → ⊥
no_cut given taken cut = not_empty cut.done cut.call cut.rest cut.whole.1
