-- A product over a power of 2, by the parts of a number, and sums of wrapped numbers.
use Rattle.std.proofs.Common.{◌≡◌, ℕ, ◌+◌, ◌*◌, ◌^◌, ◌<◌, ◌≤◌, ℤ, pos, ◌+ℤ◌, ◌-ℤ◌, ◌*ℤ◌, ap, sym, ◌∙◌, arith}
use Rattle.std.specs.Int.{int_wrap, w16}
use Rattle.std.proofs.lemmas.Int.{ints, int_wrap-add_left, int_wrap-add_right}
use Rattle.std.proofs.lemmas.Nat.{mul-le}
use Rattle.std.proofs.Math.IntN.{*ℤ_comm}
use Rattle.num_fix.specs.Arithmetic.{floor_shift, scaled, wrap16}
use Rattle.num_fix.proofs.Quotients.{product_times, rest_of, rest_of-small, shift_and_rest, shift_is, sum_times, times_sum}

-- a sample times a number over 2 ^ n, where k times the number, and so 65,536ths, are a part and a whole number of 65,536
pub scaled-in_parts : (n k : ℕ) (x c part whole : ℤ) → 2 ^ n * k ≡ 65536 → 0 < k → c *ℤ pos k ≡ part +ℤ whole *ℤ pos 65536
    → scaled x part 16 +ℤ x *ℤ whole ≡ scaled x c n
unfolding scaled
scaled-in_parts n k x c part whole full some is =
    let q : ℤ = floor_shift (x *ℤ c) n in
    let r : ℕ = rest_of (x *ℤ c) n in
    let w : ℤ = x *ℤ whole in
    let less : r + 1 ≤ 2 ^ n = omega (arith, rest_of-small (x *ℤ c) n) in
    let below : (r + 1) * k ≤ 2 ^ n * k = mul-le (r + 1) k (2 ^ n) k less (omega arith) in
    let small : r * k < 65536 = omega (arith, full, some, below) in
    let by_parts : (x *ℤ c) *ℤ pos k ≡ x *ℤ part +ℤ w *ℤ pos 65536 =
    product_times x c (pos k) ∙ ap (λ (z : ℤ). x *ℤ z) is ∙ times_sum x part (whole *ℤ pos 65536) ∙ ap (λ (z : ℤ). x *ℤ part +ℤ z) (sym (product_times x whole (pos 65536))) in
    let whole_times : (pos (2 ^ n) *ℤ q) *ℤ pos k ≡ pos 65536 *ℤ q =
    *ℤ_comm (pos (2 ^ n) *ℤ q) (pos k) ∙ sym (product_times (pos k) (pos (2 ^ n)) q) ∙ ap (λ (z : ℤ). z *ℤ q) (*ℤ_comm (pos k) (pos (2 ^ n)) ∙ ap pos full) in
    let by_rest : (x *ℤ c) *ℤ pos k ≡ pos 65536 *ℤ q +ℤ pos (r * k) =
    ap (λ (z : ℤ). z *ℤ pos k) (shift_and_rest (x *ℤ c) n) ∙ sum_times (pos (2 ^ n) *ℤ q) (pos r) (pos k) ∙ ap (λ (z : ℤ). z +ℤ pos (r * k)) whole_times in
    let high : floor_shift (x *ℤ part) 16 ≡ q -ℤ w = shift_is 16 (x *ℤ part) (q -ℤ w) (r * k) small (omega (arith, ints, by_parts, by_rest)) in
    omega (arith, ints, high)

-- sums of numbers that were wrapped
pub wrap16-sum : (a b : ℤ) → wrap16 (wrap16 a +ℤ wrap16 b) ≡ wrap16 (a +ℤ b)
unfolding wrap16 int_wrap
wrap16-sum a b = int_wrap-add_left w16 a (wrap16 b) ∙ int_wrap-add_right w16 a b

pub wrap16-sum_left : (a b : ℤ) → wrap16 (wrap16 a +ℤ b) ≡ wrap16 (a +ℤ b)
unfolding wrap16 int_wrap
wrap16-sum_left a b = int_wrap-add_left w16 a b

pub wrap16-sum_right : (a b : ℤ) → wrap16 (a +ℤ wrap16 b) ≡ wrap16 (a +ℤ b)
unfolding wrap16 int_wrap
wrap16-sum_right a b = int_wrap-add_right w16 a b
