-- What the set of a list of pages contains, and what two such sets with no page in common mean for their lists.
use Rattle.std.proofs.Common.{◌≡◌, ℕ, List, ◌++◌, true, false, ◌==◌, sym, ap, ◌∙◌, ◌⊎◌, inl, inr}
use Rattle.std.specs.FinSet as set
use Rattle.std.specs.Ordering.{nat_cmp}
use Rattle.std.proofs.lemmas.Bool.{cases_Bool, or_cases, or_left, or_right, or_parts, true≢false}
use Rattle.std.proofs.lemmas.List.Folds.{list_any-append}
use Rattle.aram_core.specs.Pages.{has_page, have_common_page}
use Rattle.aram_core.proofs.MarkedPages.{common_page}

-- the set of a list has the pages that the list has
pub contains-pages : (pages : List ℕ) (p : ℕ) → set.contains (set.from_list {R = nat_cmp} pages) p ≡ has_page pages p
contains-pages pages p = set.contains-from_list_nat pages p

-- the same page
pub at_page : (pages : List ℕ) (p q : ℕ) → p ≡ q → has_page pages p ≡ true → has_page pages q ≡ true
at_page pages p q same h = ap (λ (x : ℕ). has_page pages x) (sym same) ∙ h

pub apart_right : (xs ys : List ℕ) (p : ℕ) → have_common_page (set.from_list xs) (set.from_list ys) ≡ false → has_page xs p ≡ true → has_page ys p ≡ false
apart_right xs ys p apart here = elim (cases_Bool (has_page ys p)) [
  | inl there ↦ absurd (true≢false (sym (common_page _ _ p (contains-pages xs p ∙ here) (contains-pages ys p ∙ there)) ∙ apart))
  | inr not_there ↦ not_there
]

-- a page that two lists one after the other don't have, neither has
pub not_in_left : (xs ys : List ℕ) (p : ℕ) → has_page (xs ++ ys) p ≡ false → has_page xs p ≡ false
not_in_left xs ys p none = (or_parts (has_page xs p) (has_page ys p) (sym (list_any-append (λ q. q == p) xs ys) ∙ none)).0

pub not_in_right : (xs ys : List ℕ) (p : ℕ) → has_page (xs ++ ys) p ≡ false → has_page ys p ≡ false
not_in_right xs ys p none = (or_parts (has_page xs p) (has_page ys p) (sym (list_any-append (λ q. q == p) xs ys) ∙ none)).1

-- a page that one of two lists has, both have one after the other
pub in_left : (xs ys : List ℕ) (p : ℕ) → has_page xs p ≡ true → has_page (xs ++ ys) p ≡ true
in_left xs ys p here = list_any-append (λ q. q == p) xs ys ∙ or_left (has_page xs p) (has_page ys p) here

pub in_right : (xs ys : List ℕ) (p : ℕ) → has_page ys p ≡ true → has_page (xs ++ ys) p ≡ true
in_right xs ys p there = list_any-append (λ q. q == p) xs ys ∙ or_right (has_page xs p) (has_page ys p) there

-- a page that both have one after the other, one of them has
pub in_either : (xs ys : List ℕ) (p : ℕ) → has_page (xs ++ ys) p ≡ true → (has_page xs p ≡ true) ⊎ (has_page ys p ≡ true)
in_either xs ys p here = or_cases (has_page xs p) (has_page ys p) (sym (list_any-append (λ q. q == p) xs ys) ∙ here)
