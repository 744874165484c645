-- What stands before and after the first character that passes a test.
use Rattle.std.proofs.Common.{◌≡◌, ℕ, ◌+◌, ◌≤◌, ◌<◌, List, [], ◌∷◌, length, take, drop, Bool, true, false, refl, ap, sym, ◌∙◌, subst, arith}
use Rattle.std.specs.Prelude.{position, Some, None}
use Rattle.std.specs.List.{before_first, after_first, position_or_len, slice_split, onto_first}
use Rattle.std.proofs.lemmas.List.Splits.{slice_split_first, slice_split-cons_no}
use Rattle.std.proofs.lemmas.Grind.{common_steps}

place_is : (p : ℕ → Bool) (xs : List ℕ) (place : ℕ) → position p xs ≡ Some place → place ≡ position_or_len p xs
place_is p xs place is = grind (arith, common_steps)

place_inside : (p : ℕ → Bool) (xs : List ℕ) (place : ℕ) → position p xs ≡ Some place → position_or_len p xs < length xs
place_inside p xs place is = grind (arith, common_steps)

place_none : (p : ℕ → Bool) (xs : List ℕ) → position p xs ≡ None → length xs ≤ position_or_len p xs
place_none p xs is = grind (arith, common_steps)

pub before_place : (p : ℕ → Bool) (xs : List ℕ) (place : ℕ) → position p xs ≡ Some place → before_first p xs ≡ take place xs
before_place p xs place is = ap (λ (n : ℕ). take n xs) (sym (place_is p xs place is))

pub after_place : (p : ℕ → Bool) (xs : List ℕ) (place : ℕ) → position p xs ≡ Some place → after_first p xs ≡ drop (place + 1) xs
after_place p xs place is = ap (λ (n : ℕ). drop (n + 1) xs) (sym (place_is p xs place is))

pub before_none : (p : ℕ → Bool) (xs : List ℕ) → position p xs ≡ None → before_first p xs ≡ xs
before_none p xs is = grind (arith, common_steps)

pub after_none : (p : ℕ → Bool) (xs : List ℕ) → position p xs ≡ None → after_first p xs ≡ []
after_none p xs is = grind (arith, common_steps)

pub split_at_place : (p : ℕ → Bool) (xs : List ℕ) (place : ℕ) → position p xs ≡ Some place → slice_split p xs ≡ take place xs ∷ slice_split p (drop (place + 1) xs)
split_at_place p xs place is =
    let first = slice_split_first p xs 0 (place_inside p xs place is) in
    let place_is_first : position_or_len p xs ≡ place = sym (place_is p xs place is) in
    subst (λ (n : ℕ). slice_split p xs ≡ take n xs ∷ slice_split p (drop (n + 1) xs)) place_is_first first

split_whole : (p : ℕ → Bool) (xs : List ℕ) → length xs ≤ position_or_len p xs → slice_split p xs ≡ xs ∷ []
split_whole p [] l = refl
split_whole p (x ∷ xs) l = elim (p x) as (λ b. p x ≡ b → slice_split p (x ∷ xs) ≡ (x ∷ xs) ∷ []) [
  | true ↦ λ passes. absurd (no_room passes)
  | false ↦ λ fails. slice_split-cons_no p x xs fails ∙ ap (onto_first x) (split_whole p xs (more fails))
] refl
  where
    no_room : p x ≡ true → ⊥
    no_room passes = grind (arith, common_steps)

    more : p x ≡ false → length xs ≤ position_or_len p xs
    more fails = grind (arith, common_steps)

pub split_none : (p : ℕ → Bool) (xs : List ℕ) → position p xs ≡ None → slice_split p xs ≡ xs ∷ []
split_none p xs is = split_whole p xs (place_none p xs is)
