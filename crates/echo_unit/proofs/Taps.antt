-- The taps of the filter, one by one.
use Rattle.std.proofs.Common.{◌≡◌, ℕ, zero, suc, ◌+◌, ◌<◌, ◌≤◌, List, [], ◌∷◌, ℤ, pos, length, drop, get_or, refl, ap, sym, ◌∙◌, arith}
use Rattle.std.proofs.lemmas.List.{get_or-take, get_or-drop, length-take-le, length-drop}
use Rattle.num_fix.specs.Arithmetic.{scaled, sign8}
use Rattle.num_fix.specs.SignedWords.{number_at}
use Rattle.echo_unit.specs.Fir.{taps, eight_from}

pub number_at-taps : (hs : List ℤ) (cs : List ℕ) (i : ℕ) → i < length hs → i < length cs → number_at (taps hs cs) i ≡ scaled (number_at hs i) (sign8 (get_or cs i 0)) 6
number_at-taps [] cs i h k = absurd (omega arith)
number_at-taps (h ∷ hs) [] i p q = absurd (omega arith)
number_at-taps (h ∷ hs) (c ∷ cs) zero p q = refl
number_at-taps (h ∷ hs) (c ∷ cs) (suc i) p q = number_at-taps hs cs i (omega arith) (omega arith)

pub length-taps : (hs : List ℤ) (cs : List ℕ) → length hs ≡ length cs → length (taps hs cs) ≡ length hs
length-taps [] cs h = refl
length-taps (h ∷ hs) [] e = absurd (omega arith)
length-taps (h ∷ hs) (c ∷ cs) e = ap suc (length-taps hs cs (omega arith))

pub number_at-eight_from : (row : List ℤ) (place i : ℕ) → i < 8 → number_at (eight_from row place) i ≡ number_at row (place + i)
number_at-eight_from row place i few = get_or-take 8 (drop place row) i (pos 0) few ∙ get_or-drop place row i (pos 0)

pub length-eight_from : (row : List ℤ) (place : ℕ) → place + 8 ≤ length row → length (eight_from row place) ≡ 8
length-eight_from row place long = length-take-le 8 (drop place row) (omega (arith, length-drop place row, long))

-- a tap over the eight samples of a row
pub is_tap : (row : List ℤ) (cs : List ℕ) (place i : ℕ) → place + 8 ≤ length row → length cs ≡ 8 → i < 8
    → scaled (number_at row (place + i)) (sign8 (get_or cs i 0)) 6 ≡ number_at (taps (eight_from row place) cs) i
is_tap row cs place i long eight few =
    let eight' : length (eight_from row place) ≡ 8 = length-eight_from row place long in
    ap (λ (z : ℤ). scaled z (sign8 (get_or cs i 0)) 6) (sym (number_at-eight_from row place i few))
    ∙ sym (number_at-taps (eight_from row place) cs i (omega (arith, eight', few)) (omega (arith, eight, few)))
