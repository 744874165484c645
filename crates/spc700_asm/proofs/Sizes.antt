-- The size of items, one after another.
use Rattle.std.proofs.Common.{◌≡◌, ℕ, suc, ◌+◌, ◌*◌, ◌-◌, ◌≤◌, ◌<◌, List, [], ◌∷◌, length, refl, ap, sym, ◌∙◌, subst, arith}
use Rattle.std.specs.Prelude.{Option, Some, None}
use Rattle.std.specs.Option.{option_map}
use Rattle.std.specs.Prelude.{IfSome, option_and_then}
use Rattle.std.proofs.lemmas.Bool.Decides.{nat_tests}
use Rattle.std.proofs.lemmas.Option.{same_Some}
use Rattle.spc700_asm.specs.Statements.{Statement, all_of}
use Rattle.spc700_asm.specs.Seen.{within}
use Rattle.text_form.specs.Parts.{parts_left}

next_size : (each size k m all : ℕ) → size + each * k ≡ all → k ≡ suc m → size + each + each * m ≡ all
next_size each size k m all is more =
    let whole : size + each * suc m ≡ all = subst (λ (j : ℕ). size + each * j ≡ all) more is in omega (arith, whole)

-- one item more, where a text is left
pub size_with_item : (each size all : ℕ) (left : Option (List ℕ)) (text : List ℕ) (part : List ℕ) (after : Option (List ℕ)) → size + each * length (parts_left 44 left) ≡ all → left ≡ Some text → parts_left 44 (Some text) ≡ part ∷ parts_left 44 after → size + each + each * length (parts_left 44 after) ≡ all
size_with_item each size all left text part after is some parts =
    next_size each size (length (parts_left 44 left)) (length (parts_left 44 after)) all is (ap (λ (o : Option (List ℕ)). length (parts_left 44 o)) some ∙ ap length parts)

pub items_have_no_room : (each size all room : ℕ) (left : Option (List ℕ)) (text : List ℕ) (part : List ℕ) (after : Option (List ℕ)) → size + each * length (parts_left 44 left) ≡ all → left ≡ Some text → parts_left 44 (Some text) ≡ part ∷ parts_left 44 after → size ≤ room → room - size < each → None ≡ within room all
items_have_no_room each size all room left text part after is some parts fits none =
    let next = size_with_item each size all left text part after is some parts in
    over room all (omega (arith, next))
  where
    over : (room all : ℕ) → room < all → None ≡ within room all
    over room all more = grind (arith, nat_tests)

taken : {B : Type 0} (o : Option B) (r : Option (List B)) (found : List B) (n : ℕ) → ((rest : List B) → r ≡ Some rest → length rest ≡ n) → option_and_then (λ first. option_map (λ others. first ∷ others) r) o ≡ Some found → length found ≡ suc n
taken None r found n counts is = absurd (none_is is)
  where
    none_is : None ≡ Some found → ⊥
    none_is e = cc
taken (Some first) None found n counts is = absurd (none_is is)
  where
    none_is : None ≡ Some found → ⊥
    none_is e = cc
taken (Some first) (Some rest) found n counts is = ap length (sym (same_Some _ _ is)) ∙ ap suc (counts rest refl)

-- each item that has a value is one found
all_of_length : {B : Type 0} (value : List ℕ → Option B) (items : List (List ℕ)) (found : List B) → all_of value items ≡ Some found → length found ≡ length items
all_of_length value [] found is = ap length (sym (same_Some _ _ is))
all_of_length value (item ∷ items) found is = taken (value item) (all_of value items) found (length items) (λ rest e. all_of_length value items rest e) is

-- what holds of a statement of as many values as there are items holds of the one that is seen
pub items_seen : {B : Type 0} (value : List ℕ → Option B) (items : List (List ℕ)) (make : List B → Statement) (P : Statement → Type 0) → ((found : List B) → length found ≡ length items → P (make found)) → IfSome (option_map make (all_of value items)) P
items_seen value items make P holds =
    elim (all_of value items) as (λ o. all_of value items ≡ o → IfSome (option_map make o) P) [
      | None ↦ λ is. tt
      | Some found ↦ λ is. holds found (all_of_length value items found is)
    ] refl
