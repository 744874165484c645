-- What two words that are joined bit by bit, and words of ones, mean for the sets of pages.
use Rattle.std.proofs.Common.{◌≡◌, ℕ, zero, suc, ◌-◌, ◌%◌, ◌^◌, ◌<◌, ◌≤◌, Bool, true, false, not, ◌&&◌, ◌||◌, ◌==◌, nat_lt, max, min, bit_and, bit_or, refl, sym, ap, ◌∙◌, arith, inl, inr}
use Rattle.std.specs.Int.{bit_at, bit_not, w128}
use Rattle.std.specs.Cmp.{nat_cmp_total}
use Rattle.std.specs.FinSet as set
use Rattle.std.specs.FinMap.{nat_cmp-IsAntisymmetric}
use Rattle.std.proofs.lemmas.Bool.{cases_Bool, cases_lt}
use Rattle.std.proofs.lemmas.Bool.Decides.{nat_tests}
use Rattle.std.proofs.lemmas.Nat.Bits.{bit_at_or, bit_at_and, bit_at_not, bit_at-lt, bit_at_ones, bit_at_ones_above}
use Rattle.aram_core.specs.Pages.{Pages}
use Rattle.aram_core.specs.PageBits.{is_marked, marked_pages, contains-marked_pages}

-- sets that contain the same pages
pub same_pages : (these those : Pages) → ((q : ℕ) → set.contains these q ≡ set.contains those q) → these ≡ those
same_pages these those same = set.same_set nat_cmp_total nat_cmp-IsAntisymmetric these those same

or_bit : (x y : ℕ) → x < 2 → y < 2 → (max x y == 1) ≡ ((x == 1) || (y == 1))
or_bit zero zero p q = refl
or_bit zero (suc zero) p q = refl
or_bit (suc zero) zero p q = refl
or_bit (suc zero) (suc zero) p q = refl
or_bit (suc (suc x)) y p q = absurd (omega arith)
or_bit zero (suc (suc y)) p q = absurd (omega arith)
or_bit (suc zero) (suc (suc y)) p q = absurd (omega arith)

and_not_bit : (x y : ℕ) → x < 2 → y < 2 → (min x (1 - y) == 1) ≡ ((x == 1) && not (y == 1))
and_not_bit zero zero p q = refl
and_not_bit zero (suc zero) p q = refl
and_not_bit (suc zero) zero p q = refl
and_not_bit (suc zero) (suc zero) p q = refl
and_not_bit (suc (suc x)) y p q = absurd (omega arith)
and_not_bit zero (suc (suc y)) p q = absurd (omega arith)
and_not_bit (suc zero) (suc (suc y)) p q = absurd (omega arith)

or_bits : (a b k : ℕ) → (bit_at (bit_or a b) k == 1) ≡ ((bit_at a k == 1) || (bit_at b k == 1))
or_bits a b k = ap (λ x. x == 1) (bit_at_or a b k) ∙ or_bit (bit_at a k) (bit_at b k) (bit_at-lt a k) (bit_at-lt b k)

and_not_bits : (a b k : ℕ) → b < 2 ^ 128 → k < 128 → (bit_at (bit_and a (bit_not w128 b)) k == 1) ≡ ((bit_at a k == 1) && not (bit_at b k == 1))
and_not_bits a b k fits within =
    ap (λ x. x == 1) (bit_at_and a (bit_not w128 b) k ∙ ap (λ x. min (bit_at a k) x) (bit_at_not w128 b k fits within))
    ∙ and_not_bit (bit_at a k) (bit_at b k) (bit_at-lt a k) (bit_at-lt b k)

-- words joined by or
pub marked_pages-or : (low high low' high' : ℕ) → marked_pages (bit_or low low') (bit_or high high') ≡ set.union (marked_pages low high) (marked_pages low' high')
marked_pages-or low high low' high' = same_pages _ _ (λ q.
    contains-marked_pages (bit_or low low') (bit_or high high') q
    ∙ ap (λ b. nat_lt q 256 && b) (half q)
    ∙ both (nat_lt q 256) (is_marked low high q) (is_marked low' high' q)
    ∙ (λ i. sym (contains-marked_pages low high q) i || sym (contains-marked_pages low' high' q) i)
    ∙ sym (set.contains-union nat_cmp_total (marked_pages low high) (marked_pages low' high') q))
  where
    half : (q : ℕ) → is_marked (bit_or low low') (bit_or high high') q ≡ (is_marked low high q || is_marked low' high' q)
    half q = elim (cases_Bool (nat_lt q 128)) [
      | inl below ↦ rw below (or_bits low low' (q % 128))
      | inr above ↦ rw above (or_bits high high' (q % 128))
    ]

    both : (a b c : Bool) → (a && (b || c)) ≡ ((a && b) || (a && c))
    both true b c = refl
    both false b c = refl

-- words from which the bits of others are taken
pub marked_pages-and_not : (low high low' high' : ℕ) → low' < 2 ^ 128 → high' < 2 ^ 128
    → marked_pages (bit_and low (bit_not w128 low')) (bit_and high (bit_not w128 high')) ≡ set.difference (marked_pages low high) (marked_pages low' high')
marked_pages-and_not low high low' high' fits fits' = same_pages _ _ (λ q.
    contains-marked_pages (bit_and low (bit_not w128 low')) (bit_and high (bit_not w128 high')) q
    ∙ ap (λ b. nat_lt q 256 && b) (half q)
    ∙ both (nat_lt q 256) (is_marked low high q) (is_marked low' high' q)
    ∙ (λ i. sym (contains-marked_pages low high q) i && not (sym (contains-marked_pages low' high' q) i))
    ∙ sym (set.contains-difference nat_cmp_total (marked_pages low high) (marked_pages low' high') q))
  where
    half : (q : ℕ) → is_marked (bit_and low (bit_not w128 low')) (bit_and high (bit_not w128 high')) q ≡ (is_marked low high q && not (is_marked low' high' q))
    half q = elim (cases_Bool (nat_lt q 128)) [
      | inl below ↦ rw below (and_not_bits low low' (q % 128) fits (omega arith))
      | inr above ↦ rw above (and_not_bits high high' (q % 128) fits' (omega arith))
    ]

    both : (a b c : Bool) → (a && (b && not c)) ≡ ((a && b) && not (a && c))
    both true b c = refl
    both false b c = refl

ones_bit : (n k : ℕ) → (bit_at (2 ^ n - 1) k == 1) ≡ nat_lt k n
ones_bit n k = elim (cases_lt k n) [
  | inl below ↦ let yes : nat_lt k n ≡ true = grind (arith, nat_tests, below) in rw (bit_at_ones n k below, yes) refl
  | inr above ↦ let no : nat_lt k n ≡ false = grind (arith, nat_tests, above) in rw (bit_at_ones_above n k above, no) refl
]

-- words of ones: the first pages
pub contains-ones : (n q : ℕ) → n ≤ 256 → set.contains (marked_pages (2 ^ min n 128 - 1) (2 ^ (n - 128) - 1)) q ≡ nat_lt q n
contains-ones n q most = contains-marked_pages (2 ^ min n 128 - 1) (2 ^ (n - 128) - 1) q ∙ elim (cases_Bool (nat_lt q 128)) [
  | inl below ↦
      let h : q < 128 = grind (arith, nat_tests, below) in
      let within : nat_lt q 256 ≡ true = grind (arith, nat_tests, h) in
      let same : q % 128 ≡ q = omega (arith, h) in
      let half : nat_lt q (min n 128) ≡ nat_lt q n = grind (arith, nat_tests, h) in
      rw (below, within, same) (ones_bit (min n 128) q ∙ half)
  | inr above ↦
      let h : 128 ≤ q = grind (arith, nat_tests, above) in
      rw above (ap (λ b. nat_lt q 256 && b) (ones_bit (n - 128) (q % 128)) ∙ high h)
]
  where
    high : 128 ≤ q → (nat_lt q 256 && nat_lt (q % 128) (n - 128)) ≡ nat_lt q n
    high h = elim (cases_lt q 256) [
      | inl within ↦
          let yes : nat_lt q 256 ≡ true = grind (arith, nat_tests, within) in
          let place : q % 128 ≡ q - 128 = omega (arith, h, within) in
          let half : nat_lt (q - 128) (n - 128) ≡ nat_lt q n = grind (arith, nat_tests, h) in
          rw (yes, place) half
      | inr beyond ↦
          let no : nat_lt q 256 ≡ false = grind (arith, nat_tests, beyond) in
          let none : nat_lt q n ≡ false = grind (arith, nat_tests, beyond, most) in
          rw (no, none) refl
    ]
