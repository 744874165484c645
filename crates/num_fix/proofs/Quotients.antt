-- A number by its quotient over a power of 2 and its rest, and products of sums.
use Rattle.std.proofs.Common.{◌≡◌, ℕ, ◌+◌, ◌-◌, ◌*◌, ◌/◌, ◌^◌, ◌<◌, ℤ, pos, negsuc, ◌+ℤ◌, ◌*ℤ◌, unsigned_abs, refl, ap, sym, ◌∙◌, arith}
use Rattle.std.specs.Int.{int_rem_euclid}
use Rattle.std.proofs.lemmas.Int.{ints}
use Rattle.std.proofs.lemmas.Nat.{div-mul-add, div-add-mod', pow_pos}
use Rattle.std.proofs.Math.IntN.{*ℤ_comm}
use Rattle.std.proofs.Math.Nat.{mul_comm}
use borrow.Author.Differences.{up, down, sum_is_lem, product_is}
use Rattle.num_fix.specs.Arithmetic.{floor_shift, scaled}

-- a number that is 2 ^ n times q, and less than 2 ^ n more, is q when it is shifted right by n
pub shift_is : (n : ℕ) (z q : ℤ) (r : ℕ) → r < 2 ^ n → z ≡ pos (2 ^ n) *ℤ q +ℤ pos r → floor_shift z n ≡ q
unfolding floor_shift
shift_is n (pos x) (pos q) r small is =
    let parts : x ≡ q * 2 ^ n + r = omega (arith, ints, mul_comm q (2 ^ n)) in
    ap pos (ap (λ (y : ℕ). y / 2 ^ n) parts ∙ div-mul-add q (2 ^ n) r small)
shift_is n (pos x) (negsuc q) r small is = absurd (omega (arith, ints))
shift_is n (negsuc x) (pos q) r small is = absurd (omega (arith, ints))
shift_is n (negsuc x) (negsuc q) r small is =
    let left : ℕ = 2 ^ n - 1 - r in
    let parts : x ≡ q * 2 ^ n + left = omega (arith, ints, mul_comm q (2 ^ n)) in
    ap negsuc (ap (λ (y : ℕ). y / 2 ^ n) parts ∙ div-mul-add q (2 ^ n) left (omega arith))

-- what is left of a number over its multiple of 2 ^ n
pub rest_of : ℤ → ℕ → ℕ
rest_of z n = unsigned_abs (int_rem_euclid z (pos (2 ^ n)))

-- the rest is below 2 ^ n
pub rest_of-small : (z : ℤ) (n : ℕ) → rest_of z n < 2 ^ n
unfolding rest_of
rest_of-small (pos x) n = omega (arith, pow_pos n)
rest_of-small (negsuc x) n = omega (arith, pow_pos n)

-- the rest, as a number with a sign
pub rest_of-is : (z : ℤ) (n : ℕ) → int_rem_euclid z (pos (2 ^ n)) ≡ pos (rest_of z n)
unfolding rest_of
rest_of-is (pos x) n = refl
rest_of-is (negsuc x) n = refl

-- a number is 2 ^ n times its shift, and its rest
pub shift_and_rest : (z : ℤ) (n : ℕ) → z ≡ pos (2 ^ n) *ℤ floor_shift z n +ℤ pos (rest_of z n)
unfolding rest_of floor_shift
shift_and_rest (pos x) n = omega (arith, ints, pow_pos n, div-add-mod' x (2 ^ n), mul_comm (x / 2 ^ n) (2 ^ n))
shift_and_rest (negsuc x) n = omega (arith, ints, pow_pos n, div-add-mod' x (2 ^ n), mul_comm (x / 2 ^ n) (2 ^ n))

-- a sum's product
pub sum_times : (a b c : ℤ) → (a +ℤ b) *ℤ c ≡ a *ℤ c +ℤ b *ℤ c
sum_times a b c =
    let same = λ (k : ℕ). ap (λ (n : ℕ). n * k) (sum_is_lem a b) in
    omega (arith, ints, same (up c), same (down c))

-- a product with a sum
pub times_sum : (a b c : ℤ) → a *ℤ (b +ℤ c) ≡ a *ℤ b +ℤ a *ℤ c
times_sum a b c = *ℤ_comm a (b +ℤ c) ∙ sum_times b c a ∙ rw (*ℤ_comm b a, *ℤ_comm c a)

-- a product's product
pub product_times : (a b c : ℤ) → (a *ℤ b) *ℤ c ≡ a *ℤ (b *ℤ c)
product_times a b c =
    let up_ab = λ (k : ℕ). ap (λ (n : ℕ). n * k) (product_is a b).0 in
    let down_ab = λ (k : ℕ). ap (λ (n : ℕ). n * k) (product_is a b).1 in
    let up_bc = λ (k : ℕ). ap (λ (n : ℕ). n * k) (product_is b c).0 in
    let down_bc = λ (k : ℕ). ap (λ (n : ℕ). n * k) (product_is b c).1 in
    omega (arith, ints, up_ab (up c), up_ab (down c), down_ab (up c), down_ab (down c), up_bc (up a), up_bc (down a), down_bc (up a), down_bc (down a))

-- the product of a number that is m times q, and r more
parts_times : (m z q r c : ℤ) → z ≡ m *ℤ q +ℤ r → z *ℤ c ≡ m *ℤ (q *ℤ c) +ℤ r *ℤ c
parts_times m z q r c is = ap (λ (s : ℤ). s *ℤ c) is ∙ sum_times (m *ℤ q) r c ∙ ap (λ (s : ℤ). s +ℤ r *ℤ c) (product_times m q c)

-- a shifted product is that of the number's shift, and the shifted one of its rest
pub scaled-by_parts : (n : ℕ) (z c : ℤ) → scaled z c n ≡ floor_shift z n *ℤ c +ℤ scaled (int_rem_euclid z (pos (2 ^ n))) c n
unfolding scaled
scaled-by_parts n z c =
    let m : ℤ = pos (2 ^ n) in
    let q : ℤ = floor_shift z n in
    let r : ℤ = int_rem_euclid z m in
    let p : ℤ = r *ℤ c in
    let parts : z ≡ m *ℤ q +ℤ r = shift_and_rest z n ∙ ap (λ (s : ℤ). m *ℤ q +ℤ s) (sym (rest_of-is z n)) in
    let by : z *ℤ c ≡ m *ℤ (q *ℤ c +ℤ floor_shift p n) +ℤ pos (rest_of p n) = omega (arith, ints, parts_times m z q r c parts, shift_and_rest p n, times_sum m (q *ℤ c) (floor_shift p n)) in
    shift_is n (z *ℤ c) (q *ℤ c +ℤ floor_shift p n) (rest_of p n) (rest_of-small p n) by
