-- The pages from one on, by their numbers.
use Rattle.std.proofs.Common.{◌≡◌, ◌≢◌, ℕ, zero, suc, ◌+◌, ◌-◌, ◌%◌, ◌<◌, ◌≤◌, map, true, false, not, ◌&&◌, ◌||◌, nat_lt, nat_eq, refl, sym, ap, ◌∙◌, arith, inl, inr}
use Rattle.std.specs.List.{range_with_len}
use Rattle.std.specs.Cmp.{nat_cmp_total}
use Rattle.std.specs.FinSet as set
use Rattle.std.proofs.lemmas.Bool.{cases_lt, cases_eq, and_right}
use Rattle.std.proofs.lemmas.Bool.Decides.{nat_tests}
use Rattle.aram_core.specs.Pages.{Pages, has_page, pages_from}
use Rattle.aram_core.proofs.SetsOfPages.{same_pages}

-- a page is among those from a first one on exactly if it is no further behind it
has : (first q a n : ℕ) → first < 256 → a + n ≤ 256
    → has_page (map (λ i. (first + i) % 256) (range_with_len a n)) q ≡ (nat_lt q 256 && (not (nat_lt ((q + 256 - first) % 256) a) && nat_lt ((q + 256 - first) % 256) (a + n)))
has first q a zero page most = elim (cases_lt ((q + 256 - first) % 256) a) [
  | inl below ↦ let yes : nat_lt ((q + 256 - first) % 256) a ≡ true = grind (arith, nat_tests, below) in rw yes (sym (and_right (nat_lt q 256) false refl))
  | inr above ↦
      let no : nat_lt ((q + 256 - first) % 256) a ≡ false = grind (arith, nat_tests, above) in
      let end : a + 0 ≡ a = omega arith in
      rw (end, no) (sym (and_right (nat_lt q 256) false refl))
]
has first q a (suc n) page most = elim (cases_eq ((first + a) % 256) q) [
  | inl same ↦
      let is : nat_eq ((first + a) % 256) q ≡ true = grind (arith, nat_tests, same) in
      let within : nat_lt q 256 ≡ true = let h : q < 256 = omega (arith, same) in grind (arith, nat_tests, h) in
      let place : (q + 256 - first) % 256 ≡ a = omega (arith, same, page, most) in
      let here : nat_lt a a ≡ false = grind (arith, nat_tests) in
      let more : nat_lt a (a + suc n) ≡ true = grind (arith, nat_tests) in
      rw (is, within, place, here, more) refl
  | inr other ↦
      let is_not : nat_eq ((first + a) % 256) q ≡ false = grind (arith, nat_tests, other) in
      rw is_not (has first q (a + 1) n page (omega (arith, most)) ∙ later other)
]
  where
    later : (first + a) % 256 ≢ q
        → (nat_lt q 256 && (not (nat_lt ((q + 256 - first) % 256) (a + 1)) && nat_lt ((q + 256 - first) % 256) (a + 1 + n)))
        ≡ (nat_lt q 256 && (not (nat_lt ((q + 256 - first) % 256) a) && nat_lt ((q + 256 - first) % 256) (a + suc n)))
    later other = elim (cases_lt q 256) [
      | inl within ↦
          let apart : (q + 256 - first) % 256 ≢ a = λ e. other (omega (arith, e, within, page, most)) in
          let same : nat_lt ((q + 256 - first) % 256) (a + 1) ≡ nat_lt ((q + 256 - first) % 256) a = grind (arith, nat_tests, apart) in
          let end : a + 1 + n ≡ a + suc n = omega arith in
          rw (same, end) refl
      | inr beyond ↦ let no : nat_lt q 256 ≡ false = grind (arith, nat_tests, beyond) in rw no refl
    ]

pub contains-pages_from : (first count q : ℕ) → first < 256 → count ≤ 256
    → set.contains (pages_from first count) q ≡ (nat_lt q 256 && nat_lt ((q + 256 - first) % 256) count)
contains-pages_from first count q page few =
    let none : nat_lt ((q + 256 - first) % 256) 0 ≡ false = grind (arith, nat_tests) in
    let start : 0 + count ≡ count = omega arith in
    set.contains-from_list_nat (map (λ i. (first + i) % 256) (range_with_len 0 count)) q ∙ has first q 0 count page (omega (arith, few)) ∙ rw (none, start) refl

-- the numbers, where they end at page 255 or before
numbers_to_the_end : (first count q : ℕ) → first < 256 → first + count ≤ 256
    → (nat_lt q (first + count) && not (nat_lt q first)) ≡ (nat_lt q 256 && nat_lt ((q + 256 - first) % 256) count)
numbers_to_the_end first count q page straight = elim (cases_lt q first) [
  | inl below ↦
      let before : nat_lt q first ≡ true = grind (arith, nat_tests, below) in
      let far : nat_lt ((q + 256 - first) % 256) count ≡ false = let h : count ≤ (q + 256 - first) % 256 = omega (arith, below, straight, page) in grind (arith, nat_tests, h) in
      rw (before, far) (and_right (nat_lt q (first + count)) false refl ∙ sym (and_right (nat_lt q 256) false refl))
  | inr above ↦
      let not_before : nat_lt q first ≡ false = grind (arith, nat_tests, above) in
      rw not_before (elim (cases_lt q (first + count)) [
        | inl within ↦
            let a : nat_lt q (first + count) ≡ true = grind (arith, nat_tests, within) in
            let b : nat_lt q 256 ≡ true = grind (arith, nat_tests, within, straight) in
            let c : nat_lt ((q + 256 - first) % 256) count ≡ true = let h : (q + 256 - first) % 256 < count = omega (arith, above, within, straight) in grind (arith, nat_tests, h) in
            rw (a, b, c) refl
        | inr beyond ↦ let a : nat_lt q (first + count) ≡ false = grind (arith, nat_tests, beyond) in rw a (sym (outside above beyond))
      ])
]
  where
    outside : first ≤ q → first + count ≤ q → (nat_lt q 256 && nat_lt ((q + 256 - first) % 256) count) ≡ false
    outside above beyond = elim (cases_lt q 256) [
      | inl within ↦
          let b : nat_lt q 256 ≡ true = grind (arith, nat_tests, within) in
          let c : nat_lt ((q + 256 - first) % 256) count ≡ false = let h : count ≤ (q + 256 - first) % 256 = omega (arith, above, beyond, within) in grind (arith, nat_tests, h) in
          rw (b, c) refl
      | inr far ↦ let b : nat_lt q 256 ≡ false = grind (arith, nat_tests, far) in rw b refl
    ]

-- and where they go on at page 0
numbers_past_the_end : (first count q : ℕ) → first < 256 → count ≤ 256 → 256 < first + count
    → ((nat_lt q 256 && not (nat_lt q first)) || nat_lt q (first + count - 256)) ≡ (nat_lt q 256 && nat_lt ((q + 256 - first) % 256) count)
numbers_past_the_end first count q page few round = elim (cases_lt q 256) [
  | inr far ↦
      let b : nat_lt q 256 ≡ false = grind (arith, nat_tests, far) in
      let c : nat_lt q (first + count - 256) ≡ false = let h : first + count - 256 ≤ q = omega (arith, far, page, few) in grind (arith, nat_tests, h) in
      rw (b, c) refl
  | inl within ↦
      let b : nat_lt q 256 ≡ true = grind (arith, nat_tests, within) in
      rw b (elim (cases_lt q first) [
        | inl below ↦
            let before : nat_lt q first ≡ true = grind (arith, nat_tests, below) in
            let place : (q + 256 - first) % 256 ≡ q + 256 - first = omega (arith, below, page) in
            let same : nat_lt q (first + count - 256) ≡ nat_lt (q + 256 - first) count = grind (arith, nat_tests, below, round, page) in
            rw (before, place) same
        | inr above ↦
            let not_before : nat_lt q first ≡ false = grind (arith, nat_tests, above) in
            let near : nat_lt ((q + 256 - first) % 256) count ≡ true = let h : (q + 256 - first) % 256 < count = omega (arith, above, within, round) in grind (arith, nat_tests, h) in
            rw (not_before, near) refl
      ])
]

-- the pages below an end that are not below the first one
pub up_to_the_end : (first count : ℕ) → first < 256 → count ≤ 256 → first + count ≤ 256 → (upper lower : Pages)
    → ((q : ℕ) → set.contains upper q ≡ nat_lt q (first + count)) → ((q : ℕ) → set.contains lower q ≡ nat_lt q first)
    → set.difference upper lower ≡ pages_from first count
up_to_the_end first count page few straight upper lower up low = same_pages _ _ (λ q.
    set.contains-difference nat_cmp_total upper lower q
    ∙ (λ i. up q i && not (low q i))
    ∙ numbers_to_the_end first count q page straight
    ∙ sym (contains-pages_from first count q page few))

-- all pages that are not below the first one, and those from page 0 on
pub past_the_end : (first count : ℕ) → first < 256 → count ≤ 256 → 256 < first + count → (all lower again : Pages)
    → ((q : ℕ) → set.contains all q ≡ nat_lt q 256) → ((q : ℕ) → set.contains lower q ≡ nat_lt q first) → ((q : ℕ) → set.contains again q ≡ nat_lt q (first + count - 256))
    → set.union (set.difference all lower) again ≡ pages_from first count
past_the_end first count page few round all lower again every low more = same_pages _ _ (λ q.
    set.contains-union nat_cmp_total (set.difference all lower) again q
    ∙ ap (λ b. b || set.contains again q) (set.contains-difference nat_cmp_total all lower q)
    ∙ (λ i. (every q i && not (low q i)) || more q i)
    ∙ numbers_past_the_end first count q page few round
    ∙ sym (contains-pages_from first count q page few))
