-- The set of pages that two numbers of 128 bits stand for: bit p of the low number is page p, bit p of the high one page 128 + p.
use Rattle.std.specs.Prelude.{◌≡◌, ℕ, zero, suc, ◌+◌, ◌-◌, ◌*◌, ◌%◌, ◌^◌, ◌<◌, Bool, true, false, ◌&&◌, ◌||◌, ◌==◌, nat_lt, nat_eq, if◌then◌else◌}
use Rattle.std.specs.Ordering.{nat_cmp, eq_by_cmp}
use Rattle.std.specs.Int.{bit_at}
use Rattle.std.specs.FinSet as set
use Rattle.std.specs.Cmp.{unsigned_tied, nat_cmp_total}
use Rattle.std.proofs.Common.{refl, sym, ap, ◌∙◌, arith, inl, inr, pow-suc}
use Rattle.std.proofs.lemmas.Bool.{cases_Bool, cases_lt, and_right}
use Rattle.std.proofs.lemmas.Bool.Decides.{nat_tests}
use Rattle.std.proofs.lemmas.Nat.Bits.{bit_at_cat_low, bit_at_cat_high, bit_at-lt, same_from_bits_below}
use Rattle.aram_core.specs.declared.aram.TheConstants.{PAGE_COUNT}
use Rattle.aram_core.specs.Pages.{Pages}

-- the bit of a page is set
abbrev pub is_marked : ℕ → ℕ → ℕ → Bool
is_marked low high page = bit_at (if nat_lt page 128 then low else high) (page % 128) == 1

-- the marked pages below n
abbrev pub marked_below : ℕ → ℕ → ℕ → Pages
marked_below low high zero = set.empty
marked_below low high (suc n) = if is_marked low high n then set.insert (marked_below low high n) n else marked_below low high n

-- the marked pages
unfoldable pub marked_pages : ℕ → ℕ → Pages
marked_pages low high = marked_below low high PAGE_COUNT

-- the n lowest bits of a number: bit i is set where the set has the page first + i
abbrev pub bits_of : Pages → ℕ → ℕ → ℕ
bits_of pages first zero = 0
bits_of pages first (suc n) = (if set.contains pages (first + n) then 1 else 0) * 2 ^ n + bits_of pages first n

-- 128 bits of a set, from a first page on
unfoldable pub word_of : Pages → ℕ → ℕ
word_of pages first = bits_of pages first 128

tied : (q k : ℕ) → eq_by_cmp nat_cmp q k ≡ nat_eq q k
tied q k = unsigned_tied q k

pub contains-add : (pages : Pages) (k q : ℕ) → set.contains (set.insert pages k) q ≡ (nat_eq q k || set.contains pages q)
contains-add pages k q = set.contains-insert nat_cmp_total pages k q ∙ ap (λ b. b || set.contains pages q) (tied q k)

one_more : (n q : ℕ) (marked : Bool) → nat_eq q n ≡ false → (nat_lt q n && marked) ≡ (nat_lt q (suc n) && marked)
one_more n q marked other = let same : nat_lt q n ≡ nat_lt q (suc n) = grind (arith, nat_tests, other) in ap (λ b. b && marked) same

-- one page more, by whether it is marked
one_page : (pages : Pages) (n q : ℕ) (marks : ℕ → Bool) (b : Bool) → marks n ≡ b
    → set.contains pages q ≡ (nat_lt q n && marks q)
    → set.contains (if b then set.insert pages n else pages) q ≡ (nat_lt q (suc n) && marks q)
one_page pages n q marks true e ih = elim (cases_Bool (nat_eq q n)) [
  | inl same ↦
      let is : q ≡ n = grind (arith, nat_tests, same) in
      let below : nat_lt q (suc n) ≡ true = grind (arith, nat_tests) in
      let marked : marks q ≡ true = ap marks is ∙ e in
      contains-add pages n q ∙ rw (same, below, marked) refl
  | inr other ↦ contains-add pages n q ∙ rw other (ih ∙ one_more n q (marks q) other)
]
one_page pages n q marks false e ih = elim (cases_Bool (nat_eq q n)) [
  | inl same ↦
      let is : q ≡ n = grind (arith, nat_tests, same) in
      let unmarked : marks q ≡ false = ap marks is ∙ e in
      ih ∙ rw unmarked (and_right (nat_lt q n) false refl ∙ sym (and_right (nat_lt q (suc n)) false refl))
  | inr other ↦ ih ∙ one_more n q (marks q) other
]

-- what the set of marked pages contains
contains-marked_below : (low high n q : ℕ) → set.contains (marked_below low high n) q ≡ (nat_lt q n && is_marked low high q)
contains-marked_below low high zero q = let none : nat_lt q 0 ≡ false = grind (arith, nat_tests) in rw none (set.contains-empty nat_cmp q)
contains-marked_below low high (suc n) q =
    one_page (marked_below low high n) n q (is_marked low high) (is_marked low high n) refl (contains-marked_below low high n q)

pub contains-marked_pages : (low high q : ℕ) → set.contains (marked_pages low high) q ≡ (nat_lt q PAGE_COUNT && is_marked low high q)
unfolding marked_pages
contains-marked_pages low high q = contains-marked_below low high PAGE_COUNT q

bits_of-lt : (pages : Pages) (first n : ℕ) → bits_of pages first n < 2 ^ n
bits_of-lt pages first zero = omega arith
bits_of-lt pages first (suc n) = one_bit (set.contains pages (first + n)) (bits_of-lt pages first n)
  where
    one_bit : (b : Bool) → bits_of pages first n < 2 ^ n → (if b then 1 else 0) * 2 ^ n + bits_of pages first n < 2 ^ suc n
    one_bit true ih = grind (arith, ih, pow-suc 2 n)
    one_bit false ih = grind (arith, ih, pow-suc 2 n)

bit_of_bool : (b : Bool) → bit_at (if b then 1 else 0) 0 ≡ (if b then 1 else 0)
bit_of_bool true = refl
bit_of_bool false = refl

-- the bits of a set's number
bit_at-bits_of : (pages : Pages) (first n i : ℕ) → i < n → bit_at (bits_of pages first n) i ≡ (if set.contains pages (first + i) then 1 else 0)
bit_at-bits_of pages first zero i h = absurd (omega arith)
bit_at-bits_of pages first (suc n) i h = elim (cases_lt i n) [
  | inl below ↦ bit_at_cat_low _ n _ i below ∙ bit_at-bits_of pages first n i below
  | inr above ↦
      let last : n ≡ i = omega arith in
      let zeroth : i - n ≡ 0 = omega arith in
      bit_at_cat_high (if set.contains pages (first + n) then 1 else 0) n (bits_of pages first n) i (bits_of-lt pages first n) above
      ∙ rw (zeroth, last) (bit_of_bool (set.contains pages (first + i)))
]

from_test : (x : ℕ) → x < 2 → (if x == 1 then 1 else 0) ≡ x
from_test zero h = refl
from_test (suc zero) h = refl
from_test (suc (suc x)) h = absurd (omega arith)

-- the two words come back from their set
low_comes_back : (low high : ℕ) → low < 2 ^ 128 → word_of (marked_pages low high) 0 ≡ low
unfolding word_of
low_comes_back low high fits = same_from_bits_below 128 _ low (bits_of-lt (marked_pages low high) 0 128) fits (λ i h. bit i h)
  where
    bit : (i : ℕ) → i < 128 → bit_at (bits_of (marked_pages low high) 0 128) i ≡ bit_at low i
    bit i h =
        let start : 0 + i ≡ i = omega arith in
        let within : nat_lt i PAGE_COUNT ≡ true = grind (arith, nat_tests) in
        let low_half : nat_lt i 128 ≡ true = grind (arith, nat_tests) in
        let same : i % 128 ≡ i = omega arith in
        let bit_is = from_test (bit_at low i) (bit_at-lt low i) in
        bit_at-bits_of (marked_pages low high) 0 128 i h ∙ rw (start, contains-marked_pages low high i, within, low_half, same) bit_is

high_comes_back : (low high : ℕ) → high < 2 ^ 128 → word_of (marked_pages low high) 128 ≡ high
unfolding word_of
high_comes_back low high fits = same_from_bits_below 128 _ high (bits_of-lt (marked_pages low high) 128 128) fits (λ i h. bit i h)
  where
    bit : (i : ℕ) → i < 128 → bit_at (bits_of (marked_pages low high) 128 128) i ≡ bit_at high i
    bit i h =
        let within : nat_lt (128 + i) PAGE_COUNT ≡ true = grind (arith, nat_tests) in
        let high_half : nat_lt (128 + i) 128 ≡ false = grind (arith, nat_tests) in
        let same : (128 + i) % 128 ≡ i = omega arith in
        let bit_is = from_test (bit_at high i) (bit_at-lt high i) in
        bit_at-bits_of (marked_pages low high) 128 128 i h ∙ rw (contains-marked_pages low high (128 + i), within, high_half, same) bit_is

pub words_come_back : {X : Type 0} (low high : ℕ) → low < 2 ^ 128 → high < 2 ^ 128 → (make : ℕ → ℕ → X)
    → make (word_of (marked_pages low high) 0) (word_of (marked_pages low high) 128) ≡ make low high
words_come_back low high low_fits high_fits make = (λ i. make (low_comes_back low high low_fits i) (high_comes_back low high high_fits i))
