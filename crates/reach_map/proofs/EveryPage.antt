-- The pages of bytes that follow one another are those of each 256th byte and of the last one.
use Rattle.std.proofs.Common.{◌≡◌, ◌≢◌, ℕ, zero, suc, ◌+◌, ◌-◌, ◌*◌, ◌/◌, ◌%◌, ◌<◌, ◌≤◌, [], ◌∷◌, ◌++◌, map, Bool, true, false, ◌||◌, ◌==◌, ◌⊎◌, refl, sym, ap, ◌∙◌, arith, inl, inr}
use Rattle.std.specs.List.{range_with_len}
use Rattle.std.specs.FinSet as set
use Rattle.std.proofs.lemmas.Bool.{cases_eq, cases_lt, or_parts, eqb-false, ne_eqb}
use Rattle.std.proofs.lemmas.List.Folds.{list_any-append}
use Rattle.aram_core.specs.Pages.{Pages, page_of, has_page, pages_from}
use Rattle.reach_map.specs.Added.{with_pages, pages_of_steps}
use Rattle.reach_map.specs.Reach.{pages_of_bytes}
use Rattle.reach_map.proofs.Added.{with_pages-same, with_pages-one, with_pages-push, with_pages-empty}

-- a page that is none of a list's is no entry of it, and the other way round
pub none_of : (f : ℕ → ℕ) (q a n : ℕ) → has_page (map f (range_with_len a n)) q ≡ false → (k : ℕ) → a ≤ k → k < a + n → q ≢ f k
none_of f q a zero none k from below = absurd (omega arith)
none_of f q a (suc n) none k from below = elim (cases_eq k a) [
  | inl first ↦ λ same. eqb-false (f a) q (or_parts _ _ none).0 (sym (same ∙ ap f first))
  | inr later ↦ none_of f q (a + 1) n (or_parts _ _ none).1 k (omega arith) (omega arith)
]

pub has_none : (f : ℕ → ℕ) (q a n : ℕ) → ((k : ℕ) → a ≤ k → k < a + n → q ≢ f k) → has_page (map f (range_with_len a n)) q ≡ false
has_none f q a zero others = refl
has_none f q a (suc n) others =
    rw (ne_eqb (f a) q (λ same. others a (omega arith) (omega arith) (sym same))) (has_none f q (a + 1) n (λ k from below. others k (omega arith) (omega arith)))

-- two tests that fail together
pub fail_together : (a b : Bool) → (a ≡ false → b ≡ false) → (b ≡ false → a ≡ false) → a ≡ b
fail_together true true there back = refl
fail_together true false there back = back refl
fail_together false true there back = sym (there refl)
fail_together false false there back = refl

same_page : (x y : ℕ) → x / 256 ≡ y / 256 → page_of x ≡ page_of y
same_page x y same = omega (arith, same)

-- the page of a byte is that of the step before it, of the step after it, or of the last byte
step_of : (start count steps k : ℕ) → k < count → count ≤ 256 * steps
    → (page_of (start + k) ≡ page_of (start + 256 * (k / 256)))
    ⊎ ((k / 256 + 1 < steps) × (page_of (start + k) ≡ page_of (start + 256 * (k / 256 + 1))))
    ⊎ (page_of (start + k) ≡ page_of (start + (count - 1)))
step_of start count steps k below all = elim (cases_eq ((start + k) / 256) ((start + 256 * (k / 256)) / 256)) [
  | inl same ↦ inl (same_page _ _ same)
  | inr later ↦ inr (elim (cases_lt (k / 256 + 1) steps) [
    | inl more ↦ inl (more, same_page _ _ (omega (arith, later)))
    | inr whole ↦ inr (same_page _ _ (omega (arith, later, whole)))
  ])
]

-- a page that is none of the steps' nor the last byte's is the page of no byte
between : (start count steps q k : ℕ) → k < count → count ≤ 256 * steps
    → ((i : ℕ) → i < steps → q ≢ page_of (start + 256 * i)) → q ≢ page_of (start + (count - 1)) → q ≢ page_of (start + k)
between start count steps q k below all apart last same = elim (step_of start count steps k below all) [
  | inl before ↦ apart (k / 256) (omega arith) (same ∙ before)
  | inr rest ↦ elim rest [ inl after ↦ apart (k / 256 + 1) after.0 (same ∙ after.1) | inr at_end ↦ last (same ∙ at_end) ]
]

-- the steps and the last byte have the pages of all bytes
pub same_steps : (pages : Pages) (start count steps : ℕ) → 0 < count → count ≤ 256 * steps → 256 * (steps - 1) < count
    → with_pages pages (pages_of_steps start steps ++ page_of (start + (count - 1)) ∷ []) ≡ with_pages pages (pages_of_bytes start count)
same_steps pages start count steps some all few = with_pages-same pages _ _ (λ q. fail_together _ _ (there q) (back q))
  where
    parts : (q : ℕ) → has_page (pages_of_steps start steps ++ page_of (start + (count - 1)) ∷ []) q ≡ (has_page (pages_of_steps start steps) q || ((page_of (start + (count - 1)) == q) || false))
    parts q = list_any-append (λ page. page == q) (pages_of_steps start steps) (page_of (start + (count - 1)) ∷ [])

    there : (q : ℕ) → has_page (pages_of_steps start steps ++ page_of (start + (count - 1)) ∷ []) q ≡ false → has_page (pages_of_bytes start count) q ≡ false
    there q none =
        let last : ℕ = page_of (start + (count - 1)) in
        let halves : (has_page (pages_of_steps start steps) q || ((last == q) || false)) ≡ false = sym (parts q) ∙ none in
        let no_step : has_page (pages_of_steps start steps) q ≡ false = (or_parts (has_page (pages_of_steps start steps) q) ((last == q) || false) halves).0 in
        let at_end : ((last == q) || false) ≡ false = (or_parts (has_page (pages_of_steps start steps) q) ((last == q) || false) halves).1 in
        let not_last : q ≢ last = λ same. eqb-false last q (or_parts (last == q) false at_end).0 (sym same) in
        let apart = λ (i : ℕ) (within : i < steps). none_of (λ j. page_of (start + 256 * j)) q 0 steps no_step i (omega arith) (omega arith) in
        has_none (λ i. page_of (start + i)) q 0 count (λ k from below. between start count steps q k (omega arith) all apart not_last)

    back : (q : ℕ) → has_page (pages_of_bytes start count) q ≡ false → has_page (pages_of_steps start steps ++ page_of (start + (count - 1)) ∷ []) q ≡ false
    back q none =
        let no_step : has_page (pages_of_steps start steps) q ≡ false =
        has_none (λ i. page_of (start + 256 * i)) q 0 steps (λ i from below. none_of (λ k. page_of (start + k)) q 0 count none (256 * i) (omega arith) (omega arith)) in
        let not_last : (page_of (start + (count - 1)) == q) ≡ false =
        ne_eqb (page_of (start + (count - 1))) q (λ same. none_of (λ i. page_of (start + i)) q 0 count none (count - 1) (omega arith) (omega arith) (sym same)) in
        parts q ∙ rw (no_step, not_last) refl

-- at most 256 bytes have the pages of the first and of the last one
pub two_ends : (pages : Pages) (start count : ℕ) → 0 < count → count ≤ 256
    → set.insert (set.insert pages (page_of start)) (page_of (start + (count - 1))) ≡ with_pages pages (pages_of_bytes start count)
two_ends pages start count some few =
    let first : page_of (start + 256 * 0) ≡ page_of start = omega arith in
    ap (λ s. set.insert s (page_of (start + (count - 1)))) (with_pages-one pages (page_of start))
    ∙ with_pages-push pages (page_of start ∷ []) (page_of (start + (count - 1)))
    ∙ ap (λ p. with_pages pages (p ∷ page_of (start + (count - 1)) ∷ [])) (sym first)
    ∙ same_steps pages start count 1 some (omega arith) (omega arith)

-- the steps of bytes that follow one another, and the last byte, have the pages of all
pub last_step : (pages : Pages) (start count : ℕ) → 0 < count
    → set.insert (with_pages pages (pages_of_steps start ((count - 1) / 256 + 1))) (page_of (start + (count - 1))) ≡ with_pages pages (pages_of_bytes start count)
last_step pages start count some =
    with_pages-push pages (pages_of_steps start ((count - 1) / 256 + 1)) (page_of (start + (count - 1)))
    ∙ same_steps pages start count ((count - 1) / 256 + 1) some (omega arith) (omega arith)

-- so many pages from that of the start on are those of the steps
pub pages_from-steps : (start count : ℕ) → pages_from (page_of start) count ≡ with_pages set.empty (pages_of_steps start count)
pages_from-steps start count = ap set.from_list (λ j. map (λ i. same i j) (range_with_len 0 count)) ∙ sym (with_pages-empty (pages_of_steps start count))
  where
    same : (i : ℕ) → (page_of start + i) % 256 ≡ page_of (start + 256 * i)
    same i = omega arith
