-- How large a faded side gets, and the entries of faded frames.
use Rattle.std.proofs.Common.{◌≡◌, ℕ, zero, suc, ◌+◌, ◌*◌, ◌/◌, ◌^◌, ◌<◌, ◌≤◌, ℤ, pos, negsuc, neg_ℤ, ◌*ℤ◌, int_div, unsigned_abs, FitsSigned, List, [], ◌∷◌, ◌++◌, length, slice_get, option_map, Some, arith, refl, sym, ap, subst, ◌∙◌}
use Rattle.std.specs.Int.{w16, w64, cast_signed, cast_unsigned}
use Rattle.std.proofs.lemmas.Int.{unsigned_abs-mul, fits_signed_from_abs}
use Rattle.std.proofs.lemmas.Nat.{mul-le, div_below}
use Rattle.num_fix.proofs.Bounds.{abs_fits_16, read_back}
use Rattle.num_fix.specs.declared.Frame.{Frame}
use Rattle.render_core.specs.Fade.{faded_side, faded_frame, faded_from, faded_frames}

abs-neg_ℤ : (n : ℕ) → unsigned_abs (neg_ℤ (pos n)) ≡ n
abs-neg_ℤ zero = refl
abs-neg_ℤ (suc n) = refl

abs-int_div : (z : ℤ) (d : ℕ) → unsigned_abs (int_div z (pos d)) ≡ unsigned_abs z / d
abs-int_div (pos n) d = refl
abs-int_div (negsuc n) d = abs-neg_ℤ (suc n / d)

pub faded_side-fits : (side : ℤ) (after fade : ℕ) → FitsSigned w16 side → after < fade → FitsSigned w16 (faded_side side after fade)
faded_side-fits side after fade fits few =
    let product : unsigned_abs side * after ≤ 32768 * after = mul-le _ _ _ _ (abs_fits_16 side fits) (omega arith) in
    let below : unsigned_abs side * after < 32768 * fade = omega arith in
    let quotient : unsigned_abs side * after / fade < 32768 = div_below (unsigned_abs side * after) fade 32768 (omega arith) below in
    let same : unsigned_abs (faded_side side after fade) ≡ unsigned_abs side * after / fade =
    abs-int_div (side *ℤ pos after) fade ∙ ap (λ (n : ℕ). n / fade) (unsigned_abs-mul side (pos after)) in
    fits_signed_from_abs w16 (faded_side side after fade) (subst (λ (n : ℕ). n < 32768) (sym same) quotient)

-- an entry of the frames that begin at some place
entry-faded_from : (list : List Frame) (from frames fade k at : ℕ) → at ≡ from + k → slice_get (faded_from from frames fade list) k ≡ option_map (λ frame. faded_frame frame at frames fade) (slice_get list k)
entry-faded_from [] from frames fade k at e = refl
entry-faded_from (frame ∷ list) from frames fade zero at e = let same : from ≡ at = omega arith in ap (λ (place : ℕ). Some (faded_frame frame place frames fade)) same
entry-faded_from (frame ∷ list) from frames fade (suc k) at e = entry-faded_from list (from + 1) frames fade k at (omega arith)

pub entry-faded_frames : (list : List Frame) (fade at : ℕ) → slice_get (faded_frames list fade) at ≡ option_map (λ frame. faded_frame frame at (length list) fade) (slice_get list at)
entry-faded_frames list fade at = entry-faded_from list 0 (length list) fade at at (omega arith)

pub length-faded_from : (list : List Frame) (at frames fade : ℕ) → length (faded_from at frames fade list) ≡ length list
length-faded_from [] at frames fade = refl
length-faded_from (frame ∷ list) at frames fade = ap (λ (n : ℕ). suc n) (length-faded_from list (at + 1) frames fade)

-- the frames of one piece, and then those after it
pub faded_from-append : (xs ys : List Frame) (at frames fade : ℕ) → faded_from at frames fade (xs ++ ys) ≡ faded_from at frames fade xs ++ faded_from (at + length xs) frames fade ys
faded_from-append [] ys at frames fade = let same : at ≡ at + 0 = omega arith in ap (λ (place : ℕ). faded_from place frames fade ys) same
faded_from-append (x ∷ xs) ys at frames fade =
    let place : (at + 1) + length xs ≡ at + length (x ∷ xs) = omega arith in
    ap (λ (rest : List Frame). faded_frame x at frames fade ∷ rest)
    (faded_from-append xs ys (at + 1) frames fade
    ∙ ap (λ (n : ℕ). faded_from (at + 1) frames fade xs ++ faded_from n frames fade ys) place)

-- what the code computes in 64 bits, of numbers a, b and d that are the side and both counts
pub computed_side : (a b d side : ℤ) (after fade : ℕ) → a ≡ side → b ≡ pos after → d ≡ pos fade → FitsSigned w16 side → after < fade → fade < 2 ^ 32 →
    cast_signed w64 (cast_unsigned w64 (int_div (cast_signed w64 (cast_unsigned w64 (cast_signed w64 (cast_unsigned w64 a) *ℤ cast_signed w64 (cast_unsigned w64 b)))) (cast_signed w64 (cast_unsigned w64 d)))) ≡ faded_side side after fade
computed_side a b d side after fade is_a is_b is_d fits few small =
    let bound = abs_fits_16 side fits in
    let product : unsigned_abs side * after ≤ 32768 * after = mul-le _ _ _ _ bound (omega arith) in
    let product_bound : unsigned_abs (side *ℤ pos after) < 2 ^ 62 = subst (λ (n : ℕ). n < 2 ^ 62) (sym (unsigned_abs-mul side (pos after))) (omega arith) in
    let result_bound = abs_fits_16 (faded_side side after fade) (faded_side-fits side after fade fits few) in
    (λ i. cast_signed w64 (cast_unsigned w64 (int_div (cast_signed w64 (cast_unsigned w64 (cast_signed w64 (cast_unsigned w64 (is_a i)) *ℤ cast_signed w64 (cast_unsigned w64 (is_b i))))) (cast_signed w64 (cast_unsigned w64 (is_d i))))))
    ∙ (λ i. cast_signed w64 (cast_unsigned w64 (int_div (cast_signed w64 (cast_unsigned w64 (read_back side (omega arith) i *ℤ read_back (pos after) (omega arith) i))) (read_back (pos fade) (omega arith) i))))
    ∙ (λ i. cast_signed w64 (cast_unsigned w64 (int_div (read_back (side *ℤ pos after) product_bound i) (pos fade))))
    ∙ read_back (faded_side side after fade) (omega arith)
