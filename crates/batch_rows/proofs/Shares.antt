-- Shares at volume 0, at volumes that a factor of 16 bits has, and at those from 64 on.
use Rattle.std.proofs.Common.{◌≤◌, unsigned_abs, sym, ◌≡◌, ◌*◌, ◌<◌, ℤ, pos, ◌+ℤ◌, ◌*ℤ◌, neg_ℤ, FitsSigned, ap, ◌∙◌, arith}
use Rattle.std.specs.Int.{w16, int_max, int_min}
use Rattle.std.proofs.lemmas.Int.{ints, int_max_is, int_min_is, fits_signed_from_abs}
use Rattle.num_fix.specs.Arithmetic.{clamp16, floor_shift, scaled}
use Rattle.num_fix.proofs.Bounds.{abs_fits_16, scaled_at_most}
use Rattle.num_fix.proofs.Quotients.{product_times, rest_of, rest_of-small, shift_and_rest, shift_is, times_sum}

-- an output at a volume, by its factor
pub share_by_factor : (out volume : ℤ) → scaled out (volume *ℤ pos 512) 16 ≡ scaled out volume 7
unfolding scaled
share_by_factor out volume =
    let p : ℤ = out *ℤ volume in
    shift_is 16 _ (floor_shift p 7) (512 * rest_of p 7) (omega (arith, rest_of-small p 7)) (sym (product_times out volume (pos 512)) ∙ omega (arith, ints, shift_and_rest p 7))

limit_within : (z : ℤ) → FitsSigned w16 z → int_max (neg_ℤ (pos 32768)) (int_min z (pos 32767)) ≡ z
limit_within z fits = omega (arith, ints, int_max_is (neg_ℤ (pos 32768)) (int_min z (pos 32767)), int_min_is z (pos 32767))

-- a number of 16 bits is within their limits
pub clamp_within : (z : ℤ) → FitsSigned w16 z → clamp16 z ≡ z
unfolding clamp16
clamp_within z fits = limit_within z fits

-- at volume 0 a sum gets nothing
pub no_share : (sum out : ℤ) → clamp16 sum ≡ sum → clamp16 (sum +ℤ scaled out (pos 0) 7) ≡ sum
unfolding scaled
no_share sum out limited =
    let nothing : floor_shift (out *ℤ pos 0) 7 ≡ pos 0 = shift_is 7 (out *ℤ pos 0) (pos 0) 0 (omega arith) (omega (arith, ints)) in
    let same : sum +ℤ pos 0 ≡ sum = omega (arith, ints) in
    rw (nothing, same) limited

-- of an output that is 0 a sum gets nothing either
pub no_share_of_silence : (sum out volume : ℤ) → out ≡ pos 0 → clamp16 sum ≡ sum → clamp16 (sum +ℤ scaled out volume 7) ≡ sum
unfolding scaled
no_share_of_silence sum out volume silent limited =
    let nothing : floor_shift (pos 0 *ℤ volume) 7 ≡ pos 0 = shift_is 7 (pos 0 *ℤ volume) (pos 0) 0 (omega arith) (omega (arith, ints)) in
    let same : sum +ℤ pos 0 ≡ sum = omega (arith, ints) in
    rw (silent, nothing, same) limited

-- an output and its share at a volume are its share at a volume that is higher by 128
pub share_with_output : (out rest : ℤ) → out +ℤ scaled out (rest *ℤ pos 512) 16 ≡ scaled out (rest +ℤ pos 128) 7
unfolding scaled
share_with_output out rest =
    let p : ℤ = out *ℤ rest in
    let q : ℤ = floor_shift p 7 in
    let both : floor_shift (out *ℤ (rest +ℤ pos 128)) 7 ≡ out +ℤ q =
    shift_is 7 _ (out +ℤ q) (rest_of p 7) (rest_of-small p 7) (times_sum out rest (pos 128) ∙ omega (arith, ints, shift_and_rest p 7)) in
    ap (λ (z : ℤ). out +ℤ z) (share_by_factor out rest) ∙ sym both

-- a share at a volume below 128 has 16 bits
pub share_within : (out volume : ℤ) → FitsSigned w16 out → unsigned_abs volume < 128 → clamp16 (scaled out volume 7) ≡ scaled out volume 7
share_within out volume fits small =
    let most : unsigned_abs (scaled out volume 7) ≤ 32512 = scaled_at_most out volume 7 32768 127 32512 (abs_fits_16 out fits) (omega (arith, small)) (omega arith) in
    clamp_within (scaled out volume 7) (fits_signed_from_abs w16 (scaled out volume 7) (omega (arith, most)))
