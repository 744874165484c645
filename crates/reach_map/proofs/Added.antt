-- Sets with the pages of lists added, and when two lists add the same.
use Rattle.std.proofs.Common.{◌≡◌, ℕ, ◌+◌, ◌<◌, List, [], ◌∷◌, ◌++◌, flat_map, take, get_or, length, Bool, true, false, ◌||◌, ◌==◌, refl, sym, ap, ◌∙◌}
use Rattle.std.specs.Ordering.{nat_cmp, eq_by_cmp}
use Rattle.std.specs.Cmp.{nat_cmp_total, unsigned_tied}
use Rattle.std.specs.FinSet as set
use Rattle.std.proofs.lemmas.Cmp.{nat_eq_equiv}
use Rattle.std.proofs.lemmas.List.{append-nil, take_more}
use Rattle.std.proofs.lemmas.Grind.{flat_map-append}
use Rattle.std.proofs.lemmas.List.Folds.{list_any-append}
use Rattle.std.proofs.Math.Bool.{or-false, or_assoc, or_comm}
use Rattle.aram_core.specs.Pages.{Pages, has_page}
use Rattle.aram_core.proofs.SetsOfPages.{same_pages}
use Rattle.reach_map.specs.Added.{with_pages}

pub contains-with_pages : (pages : Pages) (more : List ℕ) (q : ℕ) → set.contains (with_pages pages more) q ≡ (set.contains pages q || has_page more q)
unfolding with_pages
contains-with_pages pages more q =
    set.contains-union nat_cmp_total pages (set.from_list more) q ∙ ap (λ b. set.contains pages q || b) (set.contains-from_list_nat more q)

-- one list after another
pub with_pages-append : (pages : Pages) (these those : List ℕ) → with_pages (with_pages pages these) those ≡ with_pages pages (these ++ those)
with_pages-append pages these those = same_pages _ _ (λ q.
    contains-with_pages (with_pages pages these) those q
    ∙ ap (λ b. b || has_page those q) (contains-with_pages pages these q)
    ∙ or_assoc (set.contains pages q) (has_page these q) (has_page those q)
    ∙ ap (λ b. set.contains pages q || b) (sym (list_any-append (λ page. page == q) these those))
    ∙ sym (contains-with_pages pages (these ++ those) q))

pub with_pages-none : (pages : Pages) → with_pages pages [] ≡ pages
with_pages-none pages = same_pages _ _ (λ q. contains-with_pages pages [] q ∙ or-false (set.contains pages q))

pub with_pages-empty : (more : List ℕ) → with_pages set.empty more ≡ set.from_list more
with_pages-empty more = same_pages _ _ (λ q.
    contains-with_pages set.empty more q ∙ ap (λ b. b || has_page more q) (set.contains-empty nat_cmp q) ∙ sym (set.contains-from_list_nat more q))

pub with_pages-from_list : (these those : List ℕ) → with_pages (set.from_list these) those ≡ set.from_list (these ++ those)
with_pages-from_list these those =
    ap (λ pages. with_pages pages those) (sym (with_pages-empty these)) ∙ with_pages-append set.empty these those ∙ with_pages-empty (these ++ those)

pub with_pages-one : (pages : Pages) (page : ℕ) → set.insert pages page ≡ with_pages pages (page ∷ [])
with_pages-one pages page = same_pages _ _ (λ q.
    set.contains-insert nat_cmp_total pages page q
    ∙ ap (λ b. b || set.contains pages q) (unsigned_tied q page ∙ nat_eq_equiv.symm q page ∙ sym (or-false (page == q)))
    ∙ or_comm (has_page (page ∷ []) q) (set.contains pages q)
    ∙ sym (contains-with_pages pages (page ∷ []) q))

-- one page after a list
pub with_pages-push : (pages : Pages) (more : List ℕ) (page : ℕ) → set.insert (with_pages pages more) page ≡ with_pages pages (more ++ page ∷ [])
with_pages-push pages more page = with_pages-one (with_pages pages more) page ∙ with_pages-append pages more (page ∷ [])

-- lists with the same pages
pub with_pages-same : (pages : Pages) (these those : List ℕ) → ((q : ℕ) → has_page these q ≡ has_page those q) → with_pages pages these ≡ with_pages pages those
with_pages-same pages these those same = same_pages _ _ (λ q.
    contains-with_pages pages these q ∙ ap (λ b. set.contains pages q || b) (same q) ∙ sym (contains-with_pages pages those q))

-- the pages of one element more
pub with_pages-turn : {X : Type 0} (f : X → List ℕ) (pages : Pages) (xs : List X) (i : ℕ) (d : X) → i < length xs
    → with_pages (with_pages pages (flat_map f (take i xs))) (f (get_or xs i d)) ≡ with_pages pages (flat_map f (take (i + 1) xs))
with_pages-turn f pages xs i d below =
    let last : flat_map f (get_or xs i d ∷ []) ≡ f (get_or xs i d) = append-nil (f (get_or xs i d)) in
    let joined : flat_map f (take (i + 1) xs) ≡ flat_map f (take i xs) ++ f (get_or xs i d) =
    ap (flat_map f) (take_more xs i d below) ∙ flat_map-append f (take i xs) (get_or xs i d ∷ []) ∙ ap (λ p. flat_map f (take i xs) ++ p) last in
    with_pages-append pages (flat_map f (take i xs)) (f (get_or xs i d)) ∙ ap (with_pages pages) (sym joined)

or_again : (a b : Bool) → (a || (a || b)) ≡ (a || b)
or_again true b = refl
or_again false b = refl

-- a page that is there stays one page
pub insert_again : (pages : Pages) (page : ℕ) → set.insert (set.insert pages page) page ≡ set.insert pages page
insert_again pages page = same_pages _ _ (λ q.
    set.contains-insert nat_cmp_total (set.insert pages page) page q
    ∙ ap (λ b. eq_by_cmp nat_cmp q page || b) (set.contains-insert nat_cmp_total pages page q)
    ∙ or_again (eq_by_cmp nat_cmp q page) (set.contains pages q)
    ∙ sym (set.contains-insert nat_cmp_total pages page q))
