-- Lists of kept samples, in parts.
use Rattle.std.proofs.Common.{◌≡◌, ◌∙◌, sym, ap, refl, zero, suc, ◌-◌, ◌<◌, ◌≤◌, ℕ, ℤ, pos, List, [], ◌∷◌, ◌++◌, length, arith, append_assoc, add-one}
use Rattle.std.specs.Prelude.{slice_get, reverse, Some}
use Rattle.std.proofs.lemmas.List.{reverse-append, append-nil, length-reverse, get_or-reverse}
use Rattle.std.proofs.Math.ListN.{get_or-append}
use Rattle.num_fix.specs.SignedWords.{number_at}
use Rattle.brr_decode.specs.Kept.{kept_sample, Digit, sample_from_end, with_kept, with_all_kept, EndsWith, IsKept, digits_of, samples_of}

-- after other samples the last ones count from the same end
pub sample_from_end-append : (xs ys : List ℤ) (k : ℕ) → k < length ys → sample_from_end (xs ++ ys) k ≡ number_at ys (length ys - 1 - k)
sample_from_end-append xs ys k h =
    let inside : k < length (reverse ys) = rw length-reverse h in
    ap (λ (l : List ℤ). number_at l k) (reverse-append xs ys)
    ∙ get_or-append (reverse ys) (reverse xs) (pos 0) k inside
    ∙ get_or-reverse ys k (pos 0) h

-- what two samples or more end with is what they end with after others
pub EndsWith-append : (xs ys : List ℤ) → 2 ≤ length ys → EndsWith (xs ++ ys) (number_at ys (length ys - 1 - 1)) (number_at ys (length ys - 1 - 0))
EndsWith-append xs ys h = record {
  last = sample_from_end-append xs ys 0 (omega arith);
  before = sample_from_end-append xs ys 1 (omega arith);
}

-- one sample more is the last, and the last is the one before it
pub EndsWith-more : (xs : List ℤ) (p2 p1 x : ℤ) → EndsWith xs p2 p1 → EndsWith (xs ++ x ∷ []) p1 x
EndsWith-more xs p2 p1 x ends = record {
  last = sample_from_end-append xs (x ∷ []) 0 (omega arith);
  before = ap (λ (l : List ℤ). number_at l 1) (reverse-append xs (x ∷ [])) ∙ ends.last;
}

-- the samples kept of digits after p1 and, before it, p2
abbrev pub kept_after : List Digit → (p1 p2 : ℤ) → List ℤ
kept_after [] p1 p2 = []
kept_after (d ∷ ds) p1 p2 =
    kept_sample d.header d.value p1 p2 ∷ kept_after ds (kept_sample d.header d.value p1 p2) p1

with_kept-is : (samples : List ℤ) (d : Digit) (p2 p1 : ℤ) → EndsWith samples p2 p1 →
    with_kept samples d ≡ samples ++ kept_sample d.header d.value p1 p2 ∷ []
unfolding with_kept
with_kept-is samples d p2 p1 ends = λ i. samples ++ kept_sample d.header d.value (ends.last i) (ends.before i) ∷ []

pub with_all_kept-is : (ds : List Digit) (samples : List ℤ) (p2 p1 : ℤ) → EndsWith samples p2 p1 →
    with_all_kept samples ds ≡ samples ++ kept_after ds p1 p2
with_all_kept-is [] samples p2 p1 ends = sym (append-nil samples)
with_all_kept-is (d ∷ ds) samples p2 p1 ends =
    let k = kept_sample d.header d.value p1 p2 in
    ap (λ (l : List ℤ). with_all_kept l ds) (with_kept-is samples d p2 p1 ends)
    ∙ with_all_kept-is ds (samples ++ k ∷ []) p1 k (EndsWith-more samples p2 p1 k ends)
    ∙ append_assoc samples (k ∷ []) (kept_after ds k p1)

pub length-kept_after : (ds : List Digit) (p1 p2 : ℤ) → length (kept_after ds p1 p2) ≡ length ds
length-kept_after [] p1 p2 = refl
length-kept_after (d ∷ ds) p1 p2 = ap (λ (n : ℕ). suc n) (length-kept_after ds (kept_sample d.header d.value p1 p2) p1)

-- an entry by the two before it, where p2 and p1 stand before the first
entry_of-kept_after : (ds : List Digit) (p1 p2 : ℤ) (j : ℕ) (d : Digit) → slice_get ds j ≡ Some d →
    let padded = p2 ∷ p1 ∷ kept_after ds p1 p2 in
    slice_get (kept_after ds p1 p2) j ≡ Some (kept_sample d.header d.value (number_at padded (suc j)) (number_at padded j))
entry_of-kept_after [] p1 p2 j d is = absurd (cc)
entry_of-kept_after (e ∷ ds) p1 p2 zero d is =
    let same : e ≡ d = cc in ap (λ (f : Digit). Some (kept_sample f.header f.value p1 p2)) same
entry_of-kept_after (e ∷ ds) p1 p2 (suc j) d is = entry_of-kept_after ds (kept_sample e.header e.value p1 p2) p1 j d is

pub no_samples : EndsWith [] (pos 0) (pos 0)
no_samples = record { last = refl; before = refl }

pub samples_of-is : (bytes : List ℕ) → samples_of bytes ≡ kept_after (digits_of bytes) (pos 0) (pos 0)
unfolding samples_of
samples_of-is bytes = with_all_kept-is (digits_of bytes) [] (pos 0) (pos 0) no_samples

IsKept-kept_after : (ds : List Digit) → IsKept ds (kept_after ds (pos 0) (pos 0))
IsKept-kept_after ds = record {
  as_long = length-kept_after ds (pos 0) (pos 0);
  entry = λ j d is. rw add-one (entry_of-kept_after ds (pos 0) (pos 0) j d is);
}

pub IsKept-samples_of : (bytes : List ℕ) → IsKept (digits_of bytes) (samples_of bytes)
IsKept-samples_of bytes = rw samples_of-is (IsKept-kept_after (digits_of bytes))
