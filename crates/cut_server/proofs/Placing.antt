-- Pages are placed one after another: in the slot of the newest where the bytes are the same, and else in a free slot.
use Rattle.std.proofs.Common.{◌≡◌, ◌≢◌, ℕ, zero, suc, ◌+◌, ◌<◌, ◌≤◌, Bool, true, false, not, nat_eq, List, [], ◌∷◌, ◌++◌, length, take, set, get_or, refl, sym, ap, ◌∙◌, arith, inl, inr, Some}
use Rattle.std.specs.Prelude.{slice_index, slice_index_or}
use Rattle.std.specs.List.{slice_get, count_by}
use Rattle.std.specs.Str.{bytes_eq}
use Rattle.std.proofs.lemmas.List.{length-map, length-set, get_or-map, get_or-set_same, get_or-set_other, map_push, take_more, take_more_set, length-take-le, length_push, get_or_append_left, get_or_push}
use Rattle.std.proofs.lemmas.List.Sums.{sum_by-cons, sum_by_push, sum_by_more, sum_by-take-le, count_by-le-length}
use Rattle.std.proofs.lemmas.Option.{get_or_from_slice_get, slice_get-get_or, same_Some}
use Rattle.std.proofs.lemmas.Bool.{cases_Bool, cases_eq, cases_lt, true≢false}
use Rattle.std.proofs.lemmas.Bool.Decides.{nat_tests}
use Rattle.std.proofs.lemmas.Slice.Eq.{bytes_eq-Decides}
use Rattle.page_pool.specs.declared.slot.Slot.{Slot}
use Rattle.page_pool.specs.Pool.{max_owners, free_slot, slot_at, free_slots, held_slot, with_owner, after_share, after_take, KeepsBytes}
use Rattle.page_pool.proofs.Links.{one_if, free_slots-set, within_of_owned, free_test, owned_test}
use Rattle.page_pool.proofs.Kept.{shared_keeps, taken_keeps}
use Rattle.cut_form.specs.Checkpoints.{pages_of, by_places, own_slots}
use Rattle.cut_server.proofs.Naming.{IsNamedAt, named_place, apart_places}
use Rattle.cut_server.proofs.Shared.{length-by_places, slice_get-by_places, slot_unshared}
use Rattle.cut_server.specs.Table.{pages_in, max_named, AreApart}
use Rattle.cut_server.specs.Placing.{shared_slots, AreOwned, IsPlaced, ArePlaced}

one_if-le : (b : Bool) → one_if b ≤ 1
one_if-le true = omega arith
one_if-le false = omega arith

-- one owner more, at one slot
owners-set : (pool : List Slot) (slot : ℕ) (s : Slot) → slot < length pool → s.owners ≡ (slot_at pool slot).owners + 1 → (k : ℕ) → (slot_at (set pool slot s) k).owners ≡ (slot_at pool k).owners + one_if (nat_eq k slot)
owners-set pool slot s within more k = elim (cases_eq k slot) [
  | inl same ↦
      let here : slot_at (set pool slot s) k ≡ s = ap (slot_at (set pool slot s)) same ∙ get_or-set_same pool slot s free_slot within in
      let test : nat_eq k slot ≡ true = grind (arith, nat_tests) in
      ap (λ x. x.owners) here ∙ more ∙ rw (test, same) refl
  | inr other ↦
      let there : slot_at (set pool slot s) k ≡ slot_at pool k = get_or-set_other pool slot k s free_slot other in
      let test : nat_eq k slot ≡ false = grind (arith, nat_tests) in
      rw (test, there) (omega arith)
]

-- owned slots keep their bytes
pub pages_in-kept : (old new : List Slot) (a b : ℕ) (slots : List ℕ) → KeepsBytes old new → AreOwned old a slots → AreOwned new b slots → pages_in new slots ≡ pages_in old slots
pages_in-kept old new a b [] keeps was is = refl
pages_in-kept old new a b (x ∷ xs) keeps was is = rw (keeps x was.0 is.0, pages_in-kept old new a b xs keeps was.2 is.2) refl

-- slots that are counted among the owners are owned
pub owned_counted : (pool : List Slot) (most : ℕ) (slots : List ℕ) → ((k : ℕ) → count_by (nat_eq k) slots ≤ (slot_at pool k).owners) → ((k : ℕ) → (slot_at pool k).owners ≤ most) → AreOwned pool most slots
owned_counted pool most [] counted few = tt
owned_counted pool most (x ∷ xs) counted few =
    let cons : (k : ℕ) → count_by (nat_eq k) (x ∷ xs) ≡ one_if (nat_eq k x) + count_by (nat_eq k) xs = λ k. sum_by-cons (λ y. one_if (nat_eq k y)) x xs in
    let self : nat_eq x x ≡ true = grind (arith, nat_tests) in (
      omega (arith, counted x, cons x, ap one_if self),
      few x,
      owned_counted pool most xs (λ k. omega (arith, counted k, cons k)) few,
    )

-- one place more, within the other list and past it
by_places-push : {A : Type 0} (test : A → A → Bool) (xs ys : List A) (x d : A) → length xs < length ys → by_places test (xs ++ x ∷ []) ys ≡ by_places test xs ys ++ test x (get_or ys (length xs) d) ∷ []
by_places-push test [] [] x d within = absurd (omega arith)
by_places-push test [] (y ∷ ys) x d within = refl
by_places-push test (z ∷ xs) [] x d within = absurd (omega arith)
by_places-push test (z ∷ xs) (y ∷ ys) x d within = ap (λ rest. test z y ∷ rest) (by_places-push test xs ys x d (omega arith))

by_places-push_past : {A : Type 0} (test : A → A → Bool) (xs ys : List A) (x : A) → length ys ≤ length xs → by_places test (xs ++ x ∷ []) ys ≡ by_places test xs ys ++ false ∷ []
by_places-push_past test [] [] x past = refl
by_places-push_past test [] (y ∷ ys) x past = absurd (omega arith)
by_places-push_past test (z ∷ xs) [] x past = ap (λ rest. false ∷ rest) (by_places-push_past test xs [] x (omega arith))
by_places-push_past test (z ∷ xs) (y ∷ ys) x past = ap (λ rest. test z y ∷ rest) (by_places-push_past test xs ys x (omega arith))

-- what is owned at a place
pub owned_at : (pool : List Slot) (most : ℕ) (slots : List ℕ) (p d : ℕ) → AreOwned pool most slots → p < length slots → (0 < (slot_at pool (get_or slots p d)).owners) × ((slot_at pool (get_or slots p d)).owners ≤ most)
owned_at pool most [] p d owned within = absurd (omega arith)
owned_at pool most (x ∷ xs) zero d owned within = (owned.0, owned.1)
owned_at pool most (x ∷ xs) (suc p) d owned within = owned_at pool most xs p d owned.2 (omega arith)

-- while pages are placed, slots with owners keep them
pub owned_later : (old new : List Slot) (newest : List ℕ) (pages : List (List ℕ)) (placed : List ℕ) (most : ℕ) (slots : List ℕ) → ArePlaced old new newest pages placed → AreOwned old most slots → AreOwned new (most + length placed) slots
owned_later old new newest pages placed most [] are owned = tt
owned_later old new newest pages placed most (x ∷ xs) are owned = (
  omega (arith, are.owners x, owned.0),
  omega (arith, are.owners x, owned.1, count_by-le-length (nat_eq x) placed),
  owned_later old new newest pages placed most xs are owned.2,
)

-- so the same pages are shared
pub shared_later : (old new : List Slot) (newest : List ℕ) (pages : List (List ℕ)) (placed : List ℕ) (most : ℕ) → ArePlaced old new newest pages placed → AreOwned old most newest → shared_slots new newest pages ≡ shared_slots old newest pages
shared_later old new newest pages placed most are owned =
    ap (λ held. by_places bytes_eq pages held) (pages_in-kept old new most (most + length placed) newest are.bytes owned (owned_later old new newest pages placed most newest are owned))

-- What one more page does, whichever slot it has.
pub record IsMore (mid new : List Slot) (newest : List ℕ) (pages : List (List ℕ)) (placed : List ℕ) (slot : ℕ) (here : Bool) : Type 0 where
  pub owners : (k : ℕ) → (slot_at new k).owners ≡ (slot_at mid k).owners + one_if (nat_eq k slot)
  pub bytes : KeepsBytes mid new
  pub holds : (slot_at new slot).bytes ≡ slice_index_or pages (length placed) []
  pub shared : by_places nat_eq (placed ++ slot ∷ []) newest ≡ by_places nat_eq placed newest ++ here ∷ []
  pub free : free_slots new + one_if (not here) ≡ free_slots mid
  pub size : length new ≡ length mid
  pub alone : count_by (nat_eq slot) placed ≡ 0
  pub fresh : (length placed < length newest → slot ≢ slice_index newest (length placed)) → (slot_at mid slot).owners ≡ 0

pub placed_more : (old mid new : List Slot) (newest : List ℕ) (pages : List (List ℕ)) (placed : List ℕ) (slot : ℕ) (here : Bool) (most : ℕ) → ArePlaced old mid newest pages placed → length placed < length pages
    → slice_get (shared_slots old newest pages) (length placed) ≡ Some here → ((k : ℕ) → (slot_at old k).owners ≤ most) → IsMore mid new newest pages placed slot here → ArePlaced old new newest pages (placed ++ slot ∷ [])
placed_more old mid new newest pages placed slot here most are within is few more =
    let n = length placed in
    let sh = shared_slots old newest pages in
    let long : length (placed ++ slot ∷ []) ≡ n + 1 = length_push placed slot in
    let count : (k : ℕ) → count_by (nat_eq k) (placed ++ slot ∷ []) ≡ count_by (nat_eq k) placed + one_if (nat_eq k slot) = λ k. sum_by_push (λ y. one_if (nat_eq k y)) placed slot in
    let mid_owned : AreOwned mid (most + n) placed = owned_counted mid (most + n) placed (λ k. omega (arith, are.owners k)) (λ k. omega (arith, are.owners k, few k, count_by-le-length (nat_eq k) placed)) in
    let new_owned : AreOwned new (most + n + 1) placed = owned_counted new (most + n + 1) placed (λ k. omega (arith, are.owners k, more.owners k)) (λ k. omega (arith, are.owners k, more.owners k, few k, count_by-le-length (nat_eq k) placed, one_if-le (nat_eq k slot))) in
    let held : pages_in new placed ≡ take n pages = pages_in-kept mid new (most + n) (most + n + 1) placed more.bytes mid_owned new_owned ∙ are.holds in
    let inside : n < length sh = omega (arith, length-by_places bytes_eq pages (pages_in old newest)) in
    let take_sh : take (n + 1) sh ≡ take n sh ++ here ∷ [] = take_more sh n false inside ∙ ap (λ b. take n sh ++ b ∷ []) (get_or_from_slice_get sh n here false is) in
    record {
      owners = λ k. omega (arith, are.owners k, more.owners k, count k);
      bytes = λ page was now. more.bytes page (omega (arith, are.owners page, was)) now ∙ are.bytes page was (omega (arith, are.owners page, was));
      holds = map_push (λ k. (slot_at new k).bytes) placed slot ∙ rw (held, more.holds, long) (sym (take_more pages n [] within));
      shared = more.shared ∙ rw (are.shared, long) (sym take_sh);
      free = rw (long, take_sh) (omega (arith, are.free, more.free, sum_by_push (λ b. one_if (not b)) (take n sh) here));
      size = more.size ∙ are.size;
      apart = λ k. elim (cases_eq k slot) [
        | inl same ↦ omega (arith, count k, one_if-le (nat_eq k slot), ap (λ i. count_by (nat_eq i) placed) same, more.alone)
        | inr other ↦ let test : nat_eq k slot ≡ false = grind (arith, nat_tests, other) in omega (arith, count k, ap one_if test, are.apart k)
      ];
      fresh = λ p inside other. elim (cases_lt p n) [
        | inl earlier ↦
            let here : slice_index (placed ++ slot ∷ []) p ≡ slice_index placed p = get_or_append_left placed (slot ∷ []) 0 p earlier in
            ap (λ k. (slot_at old k).owners) here ∙ are.fresh p earlier (λ shared same. other shared (here ∙ same))
        | inr last ↦
            let there : p ≡ n = omega (arith, inside, last, long) in
            let here : slice_index (placed ++ slot ∷ []) p ≡ slot = ap (λ i. slice_index (placed ++ slot ∷ []) i) there ∙ get_or_push placed slot 0 n refl in
            let free : (slot_at mid slot).owners ≡ 0 = more.fresh (λ shared same. other (omega (arith, shared, there)) (here ∙ same ∙ ap (slice_index newest) (sym there))) in
            omega (arith, ap (λ k. (slot_at old k).owners) here, free, are.owners slot)
      ];
    }

-- nothing is placed yet
pub placed_none : (old : List Slot) (newest : List ℕ) (pages : List (List ℕ)) → ArePlaced old old newest pages []
placed_none old newest pages = record {
  owners = λ slot. omega arith;
  bytes = λ page was now. refl;
  holds = refl;
  shared = refl;
  free = omega arith;
  size = refl;
  apart = λ slot. omega arith;
  fresh = λ page within other. absurd (omega arith);
}

-- a slot of the newest wasn't placed at an earlier page
placed_earlier : (old mid : List Slot) (newest : List ℕ) (pages : List (List ℕ)) (placed : List ℕ) (slot : ℕ) → ArePlaced old mid newest pages placed → AreOwned old max_named newest → AreApart newest
    → slot ≡ slice_index newest (length placed) → length placed < length newest → IsNamedAt placed slot → ⊥
placed_earlier old mid newest pages placed slot are owned apart named within at = elim (cases_lt at.place (length newest)) [
  | inl inside ↦ elim (cases_eq (slice_index placed at.place) (slice_index newest at.place)) [
    | inl same ↦
        let place : at.place ≡ length placed = apart_places newest apart at.place (length placed) inside within (sym same ∙ at.here ∙ named) in
        omega (arith, place, at.within)
    | inr other ↦ no_owner (are.fresh at.place at.within (λ shared. other))
  ]
  | inr past ↦ no_owner (are.fresh at.place at.within (λ shared. absurd (omega (arith, shared, past))))
]
  where
    no_owner : (slot_at old (slice_index placed at.place)).owners ≡ 0 → ⊥
    no_owner none = omega (arith, none, ap (λ k. (slot_at old k).owners) (at.here ∙ named), (owned_at old max_named newest (length placed) 0 owned within).0)

-- a page that is shared
pub shared_more : (old mid new : List Slot) (newest : List ℕ) (pages : List (List ℕ)) (placed : List ℕ) (slot most : ℕ) → ArePlaced old mid newest pages placed → AreOwned old max_named newest → AreApart newest → AreOwned mid most newest → length placed < length pages → slice_get (shared_slots mid newest pages) (length placed) ≡ Some true
    → IsPlaced mid new newest pages (length placed) slot → IsMore mid new newest pages placed slot true
shared_more old mid new newest pages placed slot most are was apart owned within is placed_here =
    let n = length placed in
    let facts = placed_here.shared is in
    let named : slot ≡ get_or newest n 0 = facts.0 in
    let new_is : new ≡ after_share mid slot = facts.2 in
    let some : 0 < (slot_at mid slot).owners = rw named (owned_at mid most newest n 0 owned facts.1).0 in
    let there : slot < length mid = within_of_owned mid slot some in
    let same : slot_at (after_share mid slot) slot ≡ with_owner (slot_at mid slot) = get_or-set_same mid slot (with_owner (slot_at mid slot)) free_slot there in
    let held : get_or (pages_in mid newest) n [] ≡ (slot_at mid slot).bytes = get_or-map (λ k. (slot_at mid k).bytes) newest n 0 [] facts.1 ∙ ap (λ k. (slot_at mid k).bytes) (sym named) in
    let inside : n < length (pages_in mid newest) = omega (arith, length-map newest (λ k. (slot_at mid k).bytes)) in
    let tested : bytes_eq (get_or pages n []) (get_or (pages_in mid newest) n []) ≡ true = same_Some _ _ (sym (slice_get-by_places bytes_eq pages (pages_in mid newest) n [] [] within inside) ∙ is) in
    let equal : get_or pages n [] ≡ (slot_at mid slot).bytes = (bytes_eq-Decides _ _).0 tested ∙ held in
    let test : nat_eq slot (get_or newest n 0) ≡ true = grind (arith, nat_tests) in
    record {
      owners = λ k. ap (λ p. (slot_at p k).owners) new_is ∙ owners-set mid slot (with_owner (slot_at mid slot)) there refl k;
      bytes = rw new_is (shared_keeps mid slot);
      holds = ap (λ p. (slot_at p slot).bytes) new_is ∙ ap (λ s. s.bytes) same ∙ sym equal;
      shared = by_places-push nat_eq placed newest slot 0 facts.1 ∙ ap (λ b. by_places nat_eq placed newest ++ b ∷ []) test;
      free = rw new_is (omega (arith, free_slots-set mid slot (with_owner (slot_at mid slot)) there, owned_test (slot_at mid slot) some, owned_test (with_owner (slot_at mid slot)) (omega arith)));
      size = rw (new_is, length-set) refl;
      alone = elim (cases_lt 0 (count_by (nat_eq slot) placed)) [
        | inl some_earlier ↦ absurd (placed_earlier old mid newest pages placed slot are was apart named facts.1 (named_place slot placed some_earlier))
        | inr none ↦ omega (arith, none)
      ];
      fresh = λ other. absurd (other facts.1 named);
    }

-- a page that has a slot of its own
pub taken_more : (old mid new : List Slot) (newest : List ℕ) (pages : List (List ℕ)) (placed : List ℕ) (slot most : ℕ) → ArePlaced old mid newest pages placed → AreOwned mid most newest → slice_get (shared_slots mid newest pages) (length placed) ≡ Some false
    → IsPlaced mid new newest pages (length placed) slot → IsMore mid new newest pages placed slot false
taken_more old mid new newest pages placed slot most are owned is placed_here =
    let n = length placed in
    let bytes = slice_index_or pages n [] in
    let facts = placed_here.taken is in
    let there : slot < length mid = facts.0 in
    let was : slot_at mid slot ≡ free_slot = facts.1 in
    let new_is : new ≡ after_take mid slot bytes = facts.2 in
    let none : (slot_at mid slot).owners ≡ 0 = ap (λ s. s.owners) was in
    let same : slot_at (after_take mid slot bytes) slot ≡ held_slot 1 bytes = get_or-set_same mid slot (held_slot 1 bytes) free_slot there in
    record {
      owners = λ k. ap (λ p. (slot_at p k).owners) new_is ∙ owners-set mid slot (held_slot 1 bytes) there (omega arith) k;
      bytes = rw new_is (taken_keeps mid slot bytes was);
      holds = ap (λ p. (slot_at p slot).bytes) new_is ∙ ap (λ s. s.bytes) same;
      shared = elim (cases_lt n (length newest)) [
        | inl inside ↦
            let some : 0 < (slot_at mid (get_or newest n 0)).owners = (owned_at mid most newest n 0 owned inside).0 in
            let other : slot ≢ get_or newest n 0 = λ e. absurd (omega (arith, none, some, ap (λ k. (slot_at mid k).owners) e)) in
            let test : nat_eq slot (get_or newest n 0) ≡ false = grind (arith, nat_tests) in
            by_places-push nat_eq placed newest slot 0 inside ∙ ap (λ b. by_places nat_eq placed newest ++ b ∷ []) test
        | inr past ↦ by_places-push_past nat_eq placed newest slot past
      ];
      free = rw new_is (omega (arith, free_slots-set mid slot (held_slot 1 bytes) there, free_test (slot_at mid slot) none, owned_test (held_slot 1 bytes) (omega arith)));
      size = rw (new_is, length-set) refl;
      alone = omega (arith, are.owners slot, none);
      fresh = λ other. none;
    }

-- a page that is shared is one of the newest
pub shared_within : (pool : List Slot) (newest memory : List ℕ) (page : ℕ) → slice_get (shared_slots pool newest (pages_of memory)) page ≡ Some true → page < 256 → page < length newest
shared_within pool newest memory page is within = elim (cases_lt page (length newest)) [
  | inl inside ↦ inside
  | inr past ↦ absurd (true≢false (same_Some true false (sym is ∙ slot_unshared pool newest memory page past within)))
]

-- the two ways of placing
pub is_placed_shared : (old new : List Slot) (newest : List ℕ) (pages : List (List ℕ)) (page slot : ℕ) → slice_get (shared_slots old newest pages) page ≡ Some true → slot ≡ slice_index newest page → page < length newest → new ≡ after_share old slot
    → IsPlaced old new newest pages page slot
is_placed_shared old new newest pages page slot is named within shared = record {
  shared = λ same. (named, within, shared);
  taken = λ other. absurd (true≢false (same_Some true false (sym is ∙ other)));
}

pub is_placed_taken : (old new : List Slot) (newest : List ℕ) (pages : List (List ℕ)) (page slot : ℕ) → slice_get (shared_slots old newest pages) page ≡ Some false → slot < length old → slot_at old slot ≡ free_slot
    → new ≡ after_take old slot (slice_index_or pages page []) → IsPlaced old new newest pages page slot
is_placed_taken old new newest pages page slot is within free taken = record {
  shared = λ same. absurd (true≢false (same_Some true false (sym same ∙ is)));
  taken = λ other. (within, free, taken);
}

owned_weaken : (pool : List Slot) (a b : ℕ) (slots : List ℕ) → a ≤ b → AreOwned pool a slots → AreOwned pool b slots
owned_weaken pool a b [] le owned = tt
owned_weaken pool a b (x ∷ xs) le owned = (owned.0, omega (arith, owned.1), owned_weaken pool a b xs le owned.2)

-- While up to 256 pages are placed.
pub placed_owned : (old mid : List Slot) (newest : List ℕ) (pages : List (List ℕ)) (placed : List ℕ) → ArePlaced old mid newest pages placed → length placed ≤ 256 → AreOwned old max_named newest → AreOwned mid max_owners newest
placed_owned old mid newest pages placed are few owned = owned_weaken mid (max_named + length placed) max_owners newest (omega arith) (owned_later old mid newest pages placed max_named newest are owned)

-- what was found of a page at first holds when it is its turn
pub placed_shared : (old mid : List Slot) (newest : List ℕ) (pages : List (List ℕ)) (placed : List ℕ) (shared : List Bool) → ArePlaced old mid newest pages placed → length placed < length pages
    → AreOwned old max_named newest → shared ≡ shared_slots old newest pages → slice_get (shared_slots mid newest pages) (length placed) ≡ Some (get_or shared (length placed) false)
placed_shared old mid newest pages placed shared are within owned found =
    rw (shared_later old mid newest pages placed max_named are owned, found) (slice_get-get_or (shared_slots old newest pages) (length placed) false (omega (arith, length-by_places bytes_eq pages (pages_in old newest))))

pub placed_room : (old mid : List Slot) (newest : List ℕ) (pages : List (List ℕ)) (placed : List ℕ) → ArePlaced old mid newest pages placed → length placed < length pages → AreOwned old max_named newest
    → own_slots (shared_slots old newest pages) ≤ free_slots old → slice_get (shared_slots mid newest pages) (length placed) ≡ Some false → 0 < free_slots mid
placed_room old mid newest pages placed are within owned room is =
    let n = length placed in
    let sh = shared_slots old newest pages in
    let inside : n < length sh = omega (arith, length-by_places bytes_eq pages (pages_in old newest)) in
    let here : get_or sh n false ≡ false = get_or_from_slice_get sh n false false (rw (← shared_later old mid newest pages placed max_named are owned) is) in
    let more : own_slots (take (n + 1) sh) ≡ own_slots (take n sh) + one_if (not (get_or sh n false)) = sum_by_more (λ b. one_if (not b)) sh n false inside in
    omega (arith, are.free, room, more, ap (λ b. one_if (not b)) here, sum_by-take-le (λ b. one_if (not b)) sh (n + 1))

pub placed_step : (old mid new : List Slot) (newest : List ℕ) (pages : List (List ℕ)) (placed : List ℕ) (slot : ℕ) → ArePlaced old mid newest pages placed → length placed < length pages → AreOwned old max_named newest → AreApart newest
    → ((k : ℕ) → (slot_at old k).owners ≤ max_named) → IsPlaced mid new newest pages (length placed) slot → ArePlaced old new newest pages (placed ++ slot ∷ [])
placed_step old mid new newest pages placed slot are within owned apart few placed_here =
    let n = length placed in
    let sh = shared_slots old newest pages in
    let inside : n < length sh = omega (arith, length-by_places bytes_eq pages (pages_in old newest)) in
    let same : shared_slots mid newest pages ≡ sh = shared_later old mid newest pages placed max_named are owned in
    let mid_owned : AreOwned mid (max_named + n) newest = owned_later old mid newest pages placed max_named newest are owned in
    let read : slice_get sh n ≡ Some (get_or sh n false) = slice_get-get_or sh n false inside in
    elim (cases_Bool (get_or sh n false)) [
      | inl is ↦
          let yes : slice_get sh n ≡ Some true = read ∙ ap (λ b. Some b) is in
          placed_more old mid new newest pages placed slot true max_named are within yes few (shared_more old mid new newest pages placed slot (max_named + n) are owned apart mid_owned within (rw same yes) placed_here)
      | inr is ↦
          let no : slice_get sh n ≡ Some false = read ∙ ap (λ b. Some b) is in
          placed_more old mid new newest pages placed slot false max_named are within no few (taken_more old mid new newest pages placed slot (max_named + n) are mid_owned (rw same no) placed_here)
    ]

-- the same in an array of slots
pub placed_set : (old mid new : List Slot) (newest : List ℕ) (pages : List (List ℕ)) (slots : List ℕ) (n slot : ℕ) → ArePlaced old mid newest pages (take n slots) → length slots ≡ 256 → length pages ≡ 256 → n < 256 → AreOwned old max_named newest → AreApart newest
    → ((k : ℕ) → (slot_at old k).owners ≤ max_named) → IsPlaced mid new newest pages n slot → ArePlaced old new newest pages (take (n + 1) (set slots n slot))
placed_set old mid new newest pages slots n slot are long whole within owned apart few placed_here =
    let size : length (take n slots) ≡ n = length-take-le n slots (omega arith) in
    rw (take_more_set slots n slot (omega arith)) (placed_step old mid new newest pages (take n slots) slot are (omega arith) owned apart few (rw size placed_here))
