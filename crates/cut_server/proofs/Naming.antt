-- How often lists name a slot, and where.
use Rattle.std.proofs.Common.{◌≡◌, ℕ, zero, suc, ◌+◌, ◌<◌, true, nat_eq, List, [], ◌∷◌, ◌++◌, length, get_or, refl, sym, ap, arith, inl, inr}
use Rattle.std.specs.Prelude.{slice_index}
use Rattle.std.specs.List.{count_by, remove}
use Rattle.std.proofs.lemmas.List.Sums.{sum_by-cons, sum_by_push, sum_by-remove, get_or-le-sum_by}
use Rattle.std.proofs.lemmas.Bool.{cases_Bool}
use Rattle.std.proofs.lemmas.Bool.Decides.{nat_tests}
use Rattle.page_pool.proofs.Links.{one_if}
use Rattle.cut_server.specs.declared.table.LiveCheckpoint.{LiveCheckpoint}
use Rattle.cut_server.specs.Table.{times_named, AreApart}

pub count-cons : (k x : ℕ) (xs : List ℕ) → count_by (nat_eq k) (x ∷ xs) ≡ one_if (nat_eq k x) + count_by (nat_eq k) xs
count-cons k x xs = sum_by-cons (λ y. one_if (nat_eq k y)) x xs

pub times-cons : {S : Type 0} (checkpoint : LiveCheckpoint S) (checkpoints : List (LiveCheckpoint S)) (k : ℕ) → times_named (checkpoint ∷ checkpoints) k ≡ count_by (nat_eq k) checkpoint.pages + times_named checkpoints k
times-cons checkpoint checkpoints k = sum_by-cons (λ m. count_by (nat_eq k) m.pages) checkpoint checkpoints

pub times-push : {S : Type 0} (checkpoints : List (LiveCheckpoint S)) (checkpoint : LiveCheckpoint S) (k : ℕ) → times_named (checkpoints ++ checkpoint ∷ []) k ≡ times_named checkpoints k + count_by (nat_eq k) checkpoint.pages
times-push checkpoints checkpoint k = sum_by_push (λ m. count_by (nat_eq k) m.pages) checkpoints checkpoint

pub times-remove : {S : Type 0} (checkpoints : List (LiveCheckpoint S)) (i : ℕ) (checkpoint : LiveCheckpoint S) (k : ℕ) → i < length checkpoints → checkpoint ≡ get_or checkpoints i checkpoint → times_named (remove checkpoints i) k + count_by (nat_eq k) checkpoint.pages ≡ times_named checkpoints k
times-remove checkpoints i checkpoint k within read = omega (arith, sum_by-remove (λ m. count_by (nat_eq k) m.pages) checkpoints i checkpoint within, ap (λ m. count_by (nat_eq k) m.pages) read)

-- where a slot stands
pub record IsNamedAt (slots : List ℕ) (slot : ℕ) : Type 0 where
  pub place : ℕ
  pub within : place < length slots
  pub here : slice_index slots place ≡ slot

pub named_place : (k : ℕ) (xs : List ℕ) → 0 < count_by (nat_eq k) xs → IsNamedAt xs k
named_place k [] some = absurd (omega (arith, some))
named_place k (x ∷ xs) some = elim (cases_Bool (nat_eq k x)) [
  | inl same ↦ record { place = 0; within = omega arith; here = grind (arith, nat_tests, same) }
  | inr other ↦
      let rest = named_place k xs (omega (arith, some, count-cons k x xs, ap one_if other)) in
      record { place = suc rest.place; within = omega (arith, rest.within); here = rest.here }
]

pub count_named : (k : ℕ) (xs : List ℕ) (p : ℕ) → p < length xs → slice_index xs p ≡ k → 0 < count_by (nat_eq k) xs
count_named k xs p within here =
    let same : nat_eq k (get_or xs p 0) ≡ true = grind (arith, nat_tests, here) in
    omega (arith, ap one_if same, get_or-le-sum_by (λ y. one_if (nat_eq k y)) xs p 0 within)

twice_named : (x : ℕ) (xs : List ℕ) → AreApart (x ∷ xs) → (p : ℕ) → p < length xs → slice_index xs p ≡ x → ⊥
twice_named x xs apart p within same =
    let self : nat_eq x x ≡ true = grind (arith, nat_tests) in
    omega (arith, apart x, count-cons x x xs, ap one_if self, count_named x xs p within same)

-- no slot stands at two places
pub apart_places : (xs : List ℕ) → AreApart xs → (p q : ℕ) → p < length xs → q < length xs → slice_index xs p ≡ slice_index xs q → p ≡ q
apart_places [] apart p q inside within same = absurd (omega arith)
apart_places (x ∷ xs) apart zero zero inside within same = refl
apart_places (x ∷ xs) apart zero (suc q) inside within same = absurd (twice_named x xs apart q (omega arith) (sym same))
apart_places (x ∷ xs) apart (suc p) zero inside within same = absurd (twice_named x xs apart p (omega arith) same)
apart_places (x ∷ xs) apart (suc p) (suc q) inside within same = ap (λ n. suc n) (apart_places xs (apart_rest x xs apart) p q (omega arith) (omega arith) same)
  where
    apart_rest : (x : ℕ) (xs : List ℕ) → AreApart (x ∷ xs) → AreApart xs
    apart_rest x xs apart k = omega (arith, apart k, count-cons k x xs)
