-- What a bit that is set in a word, and a bit that two words have in common, mean for the sets of pages.
use Rattle.std.proofs.Common.{◌≡◌, ◌≢◌, ℕ, ◌+◌, ◌*◌, ◌%◌, ◌^◌, ◌<◌, ◌≤◌, Bool, true, false, ◌&&◌, ◌||◌, ◌==◌, nat_lt, nat_eq, min, bit_and, bit_or, refl, sym, ap, ◌∙◌, arith, inl, inr}
use Rattle.std.specs.Int.{bit_at, w128}
use Rattle.std.specs.Ordering.{nat_cmp}
use Rattle.std.specs.Cmp.{nat_cmp_total}
use Rattle.std.specs.FinSet as set
use Rattle.std.specs.FinMap.{nat_cmp-IsAntisymmetric}
use Rattle.std.proofs.lemmas.Bool.{cases_Bool, cases_lt, cases_eq, and_right, true≢false}
use Rattle.std.proofs.lemmas.Bool.Decides.{nat_tests}
use Rattle.std.proofs.lemmas.Nat.Bits.{bit_at_set_same, bit_at_set_other, bit_at_and, bit_at-zero, bit_at-lt, bit_at-trailing_zeros}
use Rattle.aram_core.specs.Pages.{Pages, have_common_page}
use Rattle.aram_core.specs.PageBits.{is_marked, marked_pages, contains-marked_pages, contains-add}

-- no bit is set in two zeros
pub marked_pages-zero : marked_pages 0 0 ≡ set.empty
marked_pages-zero = set.same_set nat_cmp_total nat_cmp-IsAntisymmetric _ _ (λ q. contains-marked_pages 0 0 q ∙ none q ∙ sym (set.contains-empty nat_cmp q))
  where
    none : (q : ℕ) → (nat_lt q 256 && is_marked 0 0 q) ≡ false
    none q = elim (cases_Bool (nat_lt q 128)) [
      | inl low ↦ rw (low, bit_at-zero (q % 128)) (and_right (nat_lt q 256) false refl)
      | inr high ↦ rw (high, bit_at-zero (q % 128)) (and_right (nat_lt q 256) false refl)
    ]

-- two words that mark one page more
one_page_more : (low high low' high' k : ℕ) → k < 256 → is_marked low' high' k ≡ true → ((q : ℕ) → q < 256 → q ≢ k → is_marked low' high' q ≡ is_marked low high q)
    → marked_pages low' high' ≡ set.insert (marked_pages low high) k
one_page_more low high low' high' k within marked others =
    set.same_set nat_cmp_total nat_cmp-IsAntisymmetric _ _ (λ q. contains-marked_pages low' high' q ∙ at q ∙ sym (contains-add (marked_pages low high) k q ∙ ap (λ b. nat_eq q k || b) (contains-marked_pages low high q)))
  where
    apart : (q : ℕ) → q ≢ k → (nat_lt q 256 && is_marked low' high' q) ≡ (nat_lt q 256 && is_marked low high q)
    apart q other = elim (cases_lt q 256) [
      | inl below ↦ ap (λ b. nat_lt q 256 && b) (others q below other)
      | inr above ↦ let no : nat_lt q 256 ≡ false = grind (arith, nat_tests, above) in rw no refl
    ]

    at : (q : ℕ) → (nat_lt q 256 && is_marked low' high' q) ≡ (nat_eq q k || (nat_lt q 256 && is_marked low high q))
    at q = elim (cases_eq q k) [
      | inl same ↦
          let yes : nat_eq q k ≡ true = grind (arith, nat_tests, same) in
          let below : nat_lt q 256 ≡ true = grind (arith, nat_tests, same, within) in
          let set_there : is_marked low' high' q ≡ true = ap (is_marked low' high') same ∙ marked in
          rw (yes, below, set_there) refl
      | inr other ↦
          let no : nat_eq q k ≡ false = grind (arith, nat_tests, other) in
          rw no (apart q other)
    ]

pub marked_pages-add_low : (low high k : ℕ) → k < 128 → marked_pages (bit_or low (1 * 2 ^ k % 2 ^ 128)) high ≡ set.insert (marked_pages low high) k
marked_pages-add_low low high k within = one_page_more low high _ high k (omega arith) marked others
  where
    marked : is_marked (bit_or low (1 * 2 ^ k % 2 ^ 128)) high k ≡ true
    marked =
        let half : nat_lt k 128 ≡ true = grind (arith, nat_tests) in
        let same : k % 128 ≡ k = omega arith in
        rw (half, same, bit_at_set_same w128 low k within) refl

    others : (q : ℕ) → q < 256 → q ≢ k → is_marked (bit_or low (1 * 2 ^ k % 2 ^ 128)) high q ≡ is_marked low high q
    others q page other = elim (cases_Bool (nat_lt q 128)) [
      | inl below ↦
          let same : q % 128 ≡ q = let h : q < 128 = grind (arith, nat_tests, below) in omega arith in
          rw (below, same, bit_at_set_other w128 low k within q other) refl
      | inr above ↦ rw above refl
    ]

pub marked_pages-add_high : (low high k : ℕ) → k < 128 → marked_pages low (bit_or high (1 * 2 ^ k % 2 ^ 128)) ≡ set.insert (marked_pages low high) (128 + k)
marked_pages-add_high low high k within = one_page_more low high low _ (128 + k) (omega arith) marked others
  where
    marked : is_marked low (bit_or high (1 * 2 ^ k % 2 ^ 128)) (128 + k) ≡ true
    marked =
        let half : nat_lt (128 + k) 128 ≡ false = grind (arith, nat_tests) in
        let same : (128 + k) % 128 ≡ k = omega arith in
        rw (half, same, bit_at_set_same w128 high k within) refl

    others : (q : ℕ) → q < 256 → q ≢ 128 + k → is_marked low (bit_or high (1 * 2 ^ k % 2 ^ 128)) q ≡ is_marked low high q
    others q page other = elim (cases_Bool (nat_lt q 128)) [
      | inl below ↦ rw below refl
      | inr above ↦
          let apart : q % 128 ≢ k = let h : 128 ≤ q = grind (arith, nat_tests, above) in λ e. other (omega (arith, e, h, page)) in
          rw (above, bit_at_set_other w128 high k within (q % 128) apart) refl
    ]

-- two sets with a page in common
pub common_page : (these those : Pages) (q : ℕ) → set.contains these q ≡ true → set.contains those q ≡ true → have_common_page these those ≡ true
common_page these those q here there = elim (cases_eq (set.len (set.intersection these those)) 0) [
  | inl none ↦
      let gone : set.contains (set.intersection these those) q ≡ false = ap (λ s. set.contains s q) (set.empty_of_len _ none) ∙ set.contains-empty nat_cmp q in
      let found : set.contains (set.intersection these those) q ≡ true = set.contains-intersection nat_cmp_total these those q ∙ rw (here, there) refl in
      absurd (true≢false (sym found ∙ gone))
  | inr some ↦ let no : (set.len (set.intersection these those) == 0) ≡ false = grind (arith, nat_tests, some) in rw no refl
]

-- two sets with no page in common
pub no_common_page : (these those : Pages) → ((q : ℕ) → (set.contains these q && set.contains those q) ≡ false) → have_common_page these those ≡ false
no_common_page these those apart =
    let none : set.intersection these those ≡ set.empty = set.same_set nat_cmp_total nat_cmp-IsAntisymmetric _ _ (λ q. set.contains-intersection nat_cmp_total these those q ∙ apart q ∙ sym (set.contains-empty nat_cmp q)) in
    let zero_long : set.len (set.intersection these those) ≡ 0 = ap set.len none ∙ set.len-empty nat_cmp in
    rw zero_long refl

both_set : (a b k : ℕ) → bit_at (bit_and a b) k ≡ 1 → (bit_at a k ≡ 1) × (bit_at b k ≡ 1)
both_set a b k both =
    let least : min (bit_at a k) (bit_at b k) ≡ 1 = sym (bit_at_and a b k) ∙ both in
    let small : bit_at a k < 2 = bit_at-lt a k in
    let little : bit_at b k < 2 = bit_at-lt b k in
    (omega (arith, least, small, little), omega (arith, least, small, little))

marked_by_low : (low high k : ℕ) → k < 128 → bit_at low k ≡ 1 → set.contains (marked_pages low high) k ≡ true
marked_by_low low high k within bit =
    let page : nat_lt k 256 ≡ true = let h : k < 256 = omega arith in grind (arith, nat_tests, h) in
    let half : nat_lt k 128 ≡ true = grind (arith, nat_tests, within) in
    let same : k % 128 ≡ k = omega arith in
    contains-marked_pages low high k ∙ rw (page, half, same, bit) refl

marked_by_high : (low high k : ℕ) → k < 128 → bit_at high k ≡ 1 → set.contains (marked_pages low high) (128 + k) ≡ true
marked_by_high low high k within bit =
    let page : nat_lt (128 + k) 256 ≡ true = let h : 128 + k < 256 = omega arith in grind (arith, nat_tests, h) in
    let half : nat_lt (128 + k) 128 ≡ false = grind (arith, nat_tests) in
    let same : (128 + k) % 128 ≡ k = omega arith in
    contains-marked_pages low high (128 + k) ∙ rw (page, half, same, bit) refl

-- two low words, or two high words, with a bit in common
pub common_low : (low high low' high' : ℕ) → bit_and low low' < 2 ^ 128 → 0 < bit_and low low' → have_common_page (marked_pages low high) (marked_pages low' high') ≡ true
common_low low high low' high' fits some =
    let lowest = bit_at-trailing_zeros w128 (bit_and low low') some fits in
    let bits = both_set low low' _ lowest.1 in
    common_page _ _ _ (marked_by_low low high _ lowest.0 bits.0) (marked_by_low low' high' _ lowest.0 bits.1)

pub common_high : (low high low' high' : ℕ) → bit_and high high' < 2 ^ 128 → 0 < bit_and high high' → have_common_page (marked_pages low high) (marked_pages low' high') ≡ true
common_high low high low' high' fits some =
    let lowest = bit_at-trailing_zeros w128 (bit_and high high') some fits in
    let bits = both_set high high' _ lowest.1 in
    common_page _ _ _ (marked_by_high low high _ lowest.0 bits.0) (marked_by_high low' high' _ lowest.0 bits.1)

not_both : (a b k : ℕ) → bit_and a b ≡ 0 → ((bit_at a k == 1) && (bit_at b k == 1)) ≡ false
not_both a b k none =
    let least : min (bit_at a k) (bit_at b k) ≡ 0 = sym (bit_at_and a b k) ∙ ap (λ n. bit_at n k) none ∙ bit_at-zero k in
    elim (cases_eq (bit_at a k) 0) [
      | inl clear ↦ rw clear refl
      | inr set_here ↦ let clear : bit_at b k ≡ 0 = omega (arith, least, set_here) in rw clear (and_right (bit_at a k == 1) false refl)
    ]

-- words with no bit in common
pub nothing_common : (low high low' high' : ℕ) → bit_and low low' ≡ 0 → bit_and high high' ≡ 0 → have_common_page (marked_pages low high) (marked_pages low' high') ≡ false
nothing_common low high low' high' none_low none_high =
    no_common_page _ _ (λ q. (λ i. contains-marked_pages low high q i && contains-marked_pages low' high' q i) ∙ within q (nat_lt q 256) ∙ and_right (nat_lt q 256) _ (apart q))
  where
    within : (q : ℕ) (b : Bool) → ((b && is_marked low high q) && (b && is_marked low' high' q)) ≡ (b && (is_marked low high q && is_marked low' high' q))
    within q true = refl
    within q false = refl

    apart : (q : ℕ) → (is_marked low high q && is_marked low' high' q) ≡ false
    apart q = elim (cases_Bool (nat_lt q 128)) [
      | inl below ↦ rw below (not_both low low' (q % 128) none_low)
      | inr above ↦ rw above (not_both high high' (q % 128) none_high)
    ]
