-- A front of calls that do one thing and then another.
use Rattle.std.proofs.Common.{◌≡◌, ◌⊎◌, inl, inr, List, [], ◌∷◌, ◌++◌, refl, sym, ap, ◌∙◌, subst}
use Rattle.std.proofs.lemmas.List.{append-nil}
use Rattle.snd_host.specs.Calls.{Call}
use Rattle.snd_host.specs.Follows.{IsBegun}
use Rattle.command_runner.specs.InOrder.{Then}
use Rattle.command_runner.proofs.Sequences.{begun_whole}

-- Of lists that were put together the second time at this element: it is one of the first, or of the second.
abbrev pub IsInFirst : {A : Type 0} → (done : List A) (x : A) (front : List A) → Type 0
IsInFirst {A} done x front = (more : List A) × (front ≡ done ++ x ∷ more)

abbrev pub IsInSecond : {A : Type 0} → (done : List A) (x : A) (rest front back : List A) → Type 0
IsInSecond {A} done x rest front back = (more : List A) × (done ≡ front ++ more) × (back ≡ more ++ x ∷ rest)

abbrev pub IsInEither : {A : Type 0} → (done : List A) (x : A) (rest front back : List A) → Type 0
IsInEither done x rest front back = IsInFirst done x front ⊎ IsInSecond done x rest front back

one_more : {A : Type 0} (d f x : A) (done rest front back : List A) → d ≡ f → IsInEither done x rest front back → IsInEither (d ∷ done) x rest (f ∷ front) back
one_more d f x done rest front back same (inl found) = inl (found.0, ap (λ l. f ∷ l) found.1 ∙ ap (λ g. g ∷ done ++ x ∷ found.0) (sym same))
one_more d f x done rest front back same (inr found) = inr (found.0, ap (λ l. d ∷ l) found.1 ∙ ap (λ g. g ∷ front ++ found.0) same, found.2)

pub in_either : {A : Type 0} (done : List A) (x : A) (rest front back : List A) → done ++ x ∷ rest ≡ front ++ back → IsInEither done x rest front back
in_either [] x rest [] back is = inr ([], refl, sym is)
in_either [] x rest (f ∷ front) back is = let same : f ≡ x = cc in inl (front, ap (λ g. g ∷ front) same)
in_either (d ∷ done) x rest [] back is = inr (d ∷ done, refl, sym is)
in_either (d ∷ done) x rest (f ∷ front) back is =
    let same : d ≡ f = cc in
    let others : done ++ x ∷ rest ≡ front ++ back = cc in
    one_more d f x done rest front back same (in_either done x rest front back others)

-- The first thing was begun, or it was done and the second begun.
pub data BeginsThen (A B : List Call → Type 0) (calls : List Call) : Type 0 where
  begins_first : IsBegun A calls → BeginsThen A B calls
  begins_second : (us vs : List Call) → calls ≡ us ++ vs → A us → IsBegun B vs → BeginsThen A B calls

pub begins_then : (A B : List Call → Type 0) (calls : List Call) → IsBegun (Then A B) calls → BeginsThen A B calls
begins_then A B calls begun = by begun.rest begun.whole.split
  where
    front : List Call
    front = begun.whole.front

    back : List Call
    back = begun.whole.back

    by_place : (x : Call) (left : List Call) → IsInEither calls x left front back → BeginsThen A B calls
    by_place x left (inl place) = begins_first (record { rest = x ∷ place.0; whole = subst A place.1 begun.whole.does_first })
    by_place x left (inr place) = begins_second front place.0 place.1 begun.whole.does_first (record { rest = x ∷ left; whole = subst B place.2 begun.whole.does_second })

    by : (left : List Call) → calls ++ left ≡ front ++ back → BeginsThen A B calls
    by [] is = begins_second front back (sym (append-nil calls) ∙ is) begun.whole.does_first (begun_whole B back begun.whole.does_second)
    by (x ∷ left) is = by_place x left (in_either calls x left front back is)
