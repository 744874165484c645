-- Overflow is the whole-number sum or difference out of its range, by one table of tests over half a range, and carry the unsigned one.
use Rattle.std.proofs.Common.{◌≡◌, ℕ, ◌+◌, ◌*◌, ◌%◌, ◌<◌, ◌≤◌, Bool, true, false, not, ◌&&◌, nat_le, nat_lt, refl, ap, ◌∙◌, arith, if◌then◌else◌}
use Rattle.std.proofs.lemmas.Bool.Decides.{nat_tests}
use Rattle.spc700_alu.specs.Flags.{C, flag, differ, carry_in}
use Rattle.spc700_alu.specs.Bytes.{overflows}
use Rattle.spc700_alu.specs.Ranges.{sum_fits, difference_fits}

-- what the answer of a test says
abbrev pub Le : Bool → (x y : ℕ) → Type 0
Le true x y = x ≤ y
Le false x y = y < x

abbrev pub Lt : Bool → (x y : ℕ) → Type 0
Lt true x y = x < y
Lt false x y = y ≤ x

le_says : (b : Bool) (x y : ℕ) → nat_le x y ≡ b → Le b x y
le_says true x y is = grind (arith, nat_tests)
le_says false x y is = grind (arith, nat_tests)

pub le_decides : (x y : ℕ) → Le (nat_le x y) x y
le_decides x y = le_says (nat_le x y) x y refl

lt_says : (b : Bool) (x y : ℕ) → nat_lt x y ≡ b → Lt b x y
lt_says true x y is = grind (arith, nat_tests)
lt_says false x y is = grind (arith, nat_tests)

pub lt_decides : (x y : ℕ) → Lt (nat_lt x y) x y
lt_decides x y = lt_says (nat_lt x y) x y refl

one_or_zero : (b : Bool) → (if b then 1 else 0) ≤ 1
one_or_zero true = omega arith
one_or_zero false = omega arith

pub carry_in-few : (psw : ℕ) → carry_in psw ≤ 1
carry_in-few psw = one_or_zero (flag C psw)

-- a number of a range of twice half, and where it stands once half is added: those from half on, which are negative, come first
abbrev Moved : (is_negative : Bool) (half a moved : ℕ) → Type 0
Moved true half a moved = moved + half ≡ a
Moved false half a moved = moved ≡ a + half

-- a sum, and what is left of it in the range
abbrev Wrapped : (wraps : Bool) (half sum value : ℕ) → Type 0
Wrapped true half sum value = value + 2 * half ≡ sum
Wrapped false half sum value = value ≡ sum

-- two numbers of one sign have a sum of the other sign exactly where the sum of both, moved, leaves the range
table : (p q r : Bool) (half a b c moved_a moved_b value : ℕ) → a < 2 * half → b < 2 * half → c ≤ 1 → value < 2 * half
    → Le p half a → Le q half b → Moved p half a moved_a → Moved q half b moved_b → Wrapped r half (a + b + c) value
    → (not (differ p q) && differ p (nat_le half value)) ≡ not (nat_le half (moved_a + moved_b + c) && nat_lt (moved_a + moved_b + c) (3 * half))
table true true true half a b c moved_a moved_b value sa sb sc sv tp tq ma mb w = grind (arith, nat_tests)
table true true false half a b c moved_a moved_b value sa sb sc sv tp tq ma mb w = absurd (omega arith)
table true false true half a b c moved_a moved_b value sa sb sc sv tp tq ma mb w = grind (arith, nat_tests)
table true false false half a b c moved_a moved_b value sa sb sc sv tp tq ma mb w = grind (arith, nat_tests)
table false true true half a b c moved_a moved_b value sa sb sc sv tp tq ma mb w = grind (arith, nat_tests)
table false true false half a b c moved_a moved_b value sa sb sc sv tp tq ma mb w = grind (arith, nat_tests)
table false false true half a b c moved_a moved_b value sa sb sc sv tp tq ma mb w = absurd (omega arith)
table false false false half a b c moved_a moved_b value sa sb sc sv tp tq ma mb w = grind (arith, nat_tests)

-- the same of bytes
moved8 : (is_negative : Bool) (a : ℕ) → a < 0x100 → Le is_negative 0x80 a → Moved is_negative 0x80 a ((a + 0x80) % 0x100)
moved8 true a small is = omega arith
moved8 false a small is = omega arith

wrapped8 : (wraps : Bool) (sum : ℕ) → sum < 2 * 0x100 → Le wraps 0x100 sum → Wrapped wraps 0x80 sum (sum % 0x100)
wrapped8 true sum small is = omega arith
wrapped8 false sum small is = omega arith

pub overflow_of_sum8 : (a b c : ℕ) → a < 0x100 → b < 0x100 → c ≤ 1 → overflows 0x80 a b ((a + b + c) % 0x100) ≡ not (sum_fits 0x80 a b c)
overflow_of_sum8 a b c sa sb sc =
    table _ _ _ 0x80 a b c _ _ _ sa sb sc (omega arith) (le_decides 0x80 a) (le_decides 0x80 b)
    (moved8 _ a sa (le_decides 0x80 a)) (moved8 _ b sb (le_decides 0x80 b)) (wrapped8 _ (a + b + c) (omega arith) (le_decides 0x100 (a + b + c)))

-- a difference is the sum with the complement, o that of b and d the borrow
same_fits8 : (a b o c d : ℕ) → a < 0x100 → b + o ≡ 0xff → c + d ≡ 1 → sum_fits 0x80 a o c ≡ difference_fits 0x80 a b d
same_fits8 a b o c d sa sb sc = grind (arith, nat_tests)

pub overflow_of_difference8 : (a b o c d : ℕ) → a < 0x100 → b + o ≡ 0xff → c + d ≡ 1 → overflows 0x80 a o ((a + o + c) % 0x100) ≡ not (difference_fits 0x80 a b d)
overflow_of_difference8 a b o c d sa sb sc = overflow_of_sum8 a o c sa (omega arith) (omega arith) ∙ ap not (same_fits8 a b o c d sa sb sc)

-- the same of words
moved16 : (is_negative : Bool) (a : ℕ) → a < 0x10000 → Le is_negative 0x8000 a → Moved is_negative 0x8000 a ((a + 0x8000) % 0x10000)
moved16 true a small is = omega arith
moved16 false a small is = omega arith

wrapped16 : (wraps : Bool) (sum : ℕ) → sum < 2 * 0x10000 → Le wraps 0x10000 sum → Wrapped wraps 0x8000 sum (sum % 0x10000)
wrapped16 true sum small is = omega arith
wrapped16 false sum small is = omega arith

pub overflow_of_sum16 : (a b c : ℕ) → a < 0x10000 → b < 0x10000 → c ≤ 1 → overflows 0x8000 a b ((a + b + c) % 0x10000) ≡ not (sum_fits 0x8000 a b c)
overflow_of_sum16 a b c sa sb sc =
    table _ _ _ 0x8000 a b c _ _ _ sa sb sc (omega arith) (le_decides 0x8000 a) (le_decides 0x8000 b)
    (moved16 _ a sa (le_decides 0x8000 a)) (moved16 _ b sb (le_decides 0x8000 b)) (wrapped16 _ (a + b + c) (omega arith) (le_decides 0x10000 (a + b + c)))

-- a difference is the sum with the complement, o that of b and d the borrow
same_fits16 : (a b o c d : ℕ) → a < 0x10000 → b + o ≡ 0xffff → c + d ≡ 1 → sum_fits 0x8000 a o c ≡ difference_fits 0x8000 a b d
same_fits16 a b o c d sa sb sc = grind (arith, nat_tests)

pub overflow_of_difference16 : (a b o c d : ℕ) → a < 0x10000 → b + o ≡ 0xffff → c + d ≡ 1 → overflows 0x8000 a o ((a + o + c) % 0x10000) ≡ not (difference_fits 0x8000 a b d)
overflow_of_difference16 a b o c d sa sb sc = overflow_of_sum16 a o c sa (omega arith) (omega arith) ∙ ap not (same_fits16 a b o c d sa sb sc)

agree : (p q : Bool) (x y z w : ℕ) → Le p x y → Le q z w → (x ≤ y → z ≤ w) → (z ≤ w → x ≤ y) → p ≡ q
agree true true x y z w tp tq there back = refl
agree true false x y z w tp tq there back = let h = there tp in absurd (omega arith)
agree false true x y z w tp tq there back = let h = back tq in absurd (omega arith)
agree false false x y z w tp tq there back = refl

-- two tests of which each says what the other says
pub same_tests : (x y z w : ℕ) → (x ≤ y → z ≤ w) → (z ≤ w → x ≤ y) → nat_le x y ≡ nat_le z w
same_tests x y z w there back = agree (nat_le x y) (nat_le z w) x y z w (le_decides x y) (le_decides z w) there back
