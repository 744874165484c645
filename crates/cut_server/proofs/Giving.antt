-- Pages are given back one after another.
use Rattle.std.proofs.Common.{◌≡◌, ℕ, ◌+◌, ◌-◌, ◌<◌, ◌≤◌, ◌==◌, true, false, nat_eq, List, [], ◌∷◌, ◌++◌, length, take, get_or, refl, sym, ap, ◌∙◌, arith, inl, inr}
use Rattle.std.specs.List.{count_by}
use Rattle.std.proofs.lemmas.List.{length-set, get_or-set_same, get_or-set_other, take_more}
use Rattle.std.proofs.lemmas.List.Sums.{sum_by_push, sum_by-take-le}
use Rattle.std.proofs.lemmas.Bool.{cases_Bool, cases_eq}
use Rattle.std.proofs.lemmas.Bool.Decides.{nat_tests}
use Rattle.page_pool.specs.declared.slot.Slot.{Slot}
use Rattle.page_pool.specs.Pool.{free_slot, slot_at, is_free, free_slots, without_owner, after_give}
use Rattle.page_pool.proofs.Links.{one_if, free_slots-set, within_of_owned, owned_test}
use Rattle.page_pool.proofs.Kept.{given_keeps}
use Rattle.cut_server.specs.Table.{AreApart}
use Rattle.cut_server.specs.Placing.{has_one_owner, AreGiven}

owners-without : (s : Slot) → 0 < s.owners → (without_owner s).owners + 1 ≡ s.owners
owners-without s some = elim (cases_Bool (s.owners == 1)) [
  | inl one ↦ let is : s.owners ≡ 1 = grind (arith, nat_tests, one) in rw one (sym is)
  | inr more ↦ rw more (omega (arith, some))
]

free-without : (s : Slot) → 0 < s.owners → one_if (is_free (without_owner s)) ≡ one_if (s.owners == 1)
free-without s some = elim (cases_Bool (s.owners == 1)) [
  | inl one ↦ rw one refl
  | inr more ↦
      let others : ((s.owners - 1) == 0) ≡ false = grind (arith, nat_tests, more, some) in
      rw (more, others) refl
]

owners-given : (pool : List Slot) (slot : ℕ) → 0 < (slot_at pool slot).owners → (k : ℕ) → (slot_at (after_give pool slot) k).owners + one_if (nat_eq k slot) ≡ (slot_at pool k).owners
owners-given pool slot some k = elim (cases_eq k slot) [
  | inl same ↦
      let s = without_owner (slot_at pool slot) in
      let here : slot_at (after_give pool slot) k ≡ s = ap (slot_at (after_give pool slot)) same ∙ get_or-set_same pool slot s free_slot (within_of_owned pool slot some) in
      let test : nat_eq k slot ≡ true = grind (arith, nat_tests) in
      rw (here, test, same) (owners-without (slot_at pool slot) some)
  | inr other ↦
      let there : slot_at (after_give pool slot) k ≡ slot_at pool k = get_or-set_other pool slot k (without_owner (slot_at pool slot)) free_slot other in
      let test : nat_eq k slot ≡ false = grind (arith, nat_tests) in
      rw (test, there) (omega arith)
]

free-given : (pool : List Slot) (slot : ℕ) → 0 < (slot_at pool slot).owners → free_slots (after_give pool slot) ≡ free_slots pool + one_if (has_one_owner pool slot)
free-given pool slot some =
    omega (arith, free_slots-set pool slot (without_owner (slot_at pool slot)) (within_of_owned pool slot some), owned_test (slot_at pool slot) some, free-without (slot_at pool slot) some)

given_one : (old mid : List Slot) (placed : List ℕ) (slot : ℕ) → AreGiven old mid placed → 0 < (slot_at mid slot).owners → count_by (nat_eq slot) placed ≡ 0 → AreGiven old (after_give mid slot) (placed ++ slot ∷ [])
given_one old mid placed slot are some once =
    let count : (k : ℕ) → count_by (nat_eq k) (placed ++ slot ∷ []) ≡ count_by (nat_eq k) placed + one_if (nat_eq k slot) = λ k. sum_by_push (λ y. one_if (nat_eq k y)) placed slot in
    let same : (slot_at mid slot).owners ≡ (slot_at old slot).owners = omega (arith, are.owners slot, once) in
    record {
      owners = λ k. omega (arith, are.owners k, owners-given mid slot some k, count k);
      bytes = λ page was now. let there : 0 < (slot_at mid page).owners = omega (arith, now, owners-given mid slot some page) in given_keeps mid slot page there now ∙ are.bytes page was there;
      free = omega (arith, are.free, free-given mid slot some, sum_by_push (λ y. one_if (has_one_owner old y)) placed slot, ap (λ n. one_if (n == 1)) same);
      size = length-set mid slot (without_owner (slot_at mid slot)) ∙ are.size;
    }

pub given_more : (old mid new : List Slot) (slots : List ℕ) (n slot : ℕ) → AreGiven old mid (take n slots) → n < length slots → slot ≡ get_or slots n slot → AreApart slots → ((k : ℕ) → count_by (nat_eq k) slots ≤ (slot_at old k).owners)
    → new ≡ after_give mid slot → AreGiven old new (take (n + 1) slots)
given_more old mid new slots n slot are within read apart counted new_is =
    let next : take (n + 1) slots ≡ take n slots ++ slot ∷ [] = take_more slots n slot within ∙ ap (λ s. take n slots ++ s ∷ []) (sym read) in
    let self : nat_eq slot slot ≡ true = grind (arith, nat_tests) in
    let pushed : count_by (nat_eq slot) (take n slots ++ slot ∷ []) ≡ count_by (nat_eq slot) (take n slots) + one_if (nat_eq slot slot) = sum_by_push (λ y. one_if (nat_eq slot y)) (take n slots) slot in
    let less : count_by (nat_eq slot) (take n slots ++ slot ∷ []) ≤ count_by (nat_eq slot) slots = rw (← next) (sum_by-take-le (λ y. one_if (nat_eq slot y)) slots (n + 1)) in
    let once : count_by (nat_eq slot) (take n slots) ≡ 0 = omega (arith, pushed, ap one_if self, less, apart slot) in
    rw (next, new_is) (given_one old mid (take n slots) slot are (omega (arith, are.owners slot, once, counted slot, pushed, ap one_if self, less)) once)
