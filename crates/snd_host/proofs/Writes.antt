-- What outputs are given by writes, one after another, and the rooms that are left.
use Rattle.std.proofs.Common.{◌≡◌, ℕ, zero, suc, ◌+◌, ◌-◌, ◌≤◌, List, [], ◌∷◌, ◌++◌, get_or, refl, sym, ap, subst, arith, append_assoc}
use Rattle.std.proofs.lemmas.List.{append-nil}
use Rattle.snd_host.specs.Host.{Given, Output, next_count, Rose, given_with, outputs_with, rooms_less}

pub outputs_with-outputs_with : (outputs : List Output) (place : ℕ) (xs ys : List ℕ) → outputs_with (outputs_with outputs place xs) place ys ≡ outputs_with outputs place (xs ++ ys)
outputs_with-outputs_with [] place xs ys = refl
outputs_with-outputs_with (o ∷ outputs) zero xs ys = ap (λ (bytes : List ℕ). record o { bytes = bytes } ∷ outputs) (append_assoc o.bytes xs ys)
outputs_with-outputs_with (o ∷ outputs) (suc place) xs ys = ap (λ (l : List Output). o ∷ l) (outputs_with-outputs_with outputs place xs ys)

pub outputs_with-nil : (outputs : List Output) (place : ℕ) → outputs_with outputs place [] ≡ outputs
outputs_with-nil [] place = refl
outputs_with-nil (o ∷ outputs) zero = ap (λ (bytes : List ℕ). record o { bytes = bytes } ∷ outputs) (append-nil o.bytes)
outputs_with-nil (o ∷ outputs) (suc place) = ap (λ (l : List Output). o ∷ l) (outputs_with-nil outputs place)

pub given_with-given_with : (given : Given) (file : ℕ) (xs ys : List ℕ) → given_with (given_with given file xs) file ys ≡ given_with given file (xs ++ ys)
given_with-given_with g zero xs ys = ap (λ (bytes : List ℕ). record g { report = bytes }) (append_assoc g.report xs ys)
given_with-given_with g (suc zero) xs ys = ap (λ (bytes : List ℕ). record g { complaint = bytes }) (append_assoc g.complaint xs ys)
given_with-given_with g (suc (suc place)) xs ys = ap (λ (l : List Output). record g { created = l }) (outputs_with-outputs_with g.created place xs ys)

pub given_with-nil : (given : Given) (file : ℕ) → given_with given file [] ≡ given
given_with-nil g zero = ap (λ (bytes : List ℕ). record g { report = bytes }) (append-nil g.report)
given_with-nil g (suc zero) = ap (λ (bytes : List ℕ). record g { complaint = bytes }) (append-nil g.complaint)
given_with-nil g (suc (suc place)) = ap (λ (l : List Output). record g { created = l }) (outputs_with-nil g.created place)

pub index-rooms_less : (rooms : List ℕ) (file count : ℕ) → get_or (rooms_less rooms file count) file 0 ≡ get_or rooms file 0 - count
index-rooms_less [] file count = omega arith
index-rooms_less (r ∷ rooms) zero count = refl
index-rooms_less (r ∷ rooms) (suc file) count = index-rooms_less rooms file count

pub rooms_less-rooms_less : (rooms : List ℕ) (file a b c : ℕ) → c ≡ a + b → rooms_less (rooms_less rooms file a) file b ≡ rooms_less rooms file c
rooms_less-rooms_less [] file a b c is = refl
rooms_less-rooms_less (r ∷ rooms) zero a b c is = let same : r - a - b ≡ r - c = omega arith in ap (λ (n : ℕ). n ∷ rooms) same
rooms_less-rooms_less (r ∷ rooms) (suc file) a b c is = ap (λ (l : List ℕ). r ∷ l) (rooms_less-rooms_less rooms file a b c is)

pub lowered_none : (rooms : List ℕ) (file : ℕ) → rooms_less rooms file 0 ≡ rooms
lowered_none [] file = refl
lowered_none (r ∷ rooms) zero = let same : r - 0 ≡ r = omega arith in ap (λ (n : ℕ). n ∷ rooms) same
lowered_none (r ∷ rooms) (suc file) = ap (λ (l : List ℕ). r ∷ l) (lowered_none rooms file)

-- a count that has one more rose
pub rose : (before now : ℕ) → now ≡ next_count before → Rose before now
rose before now is = subst (λ (n : ℕ). next_count before ≤ n) (sym is) (at_most (next_count before))
  where
    at_most : (n : ℕ) → n ≤ n
    at_most n = omega arith
