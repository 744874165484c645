-- Rows that a loop fills entry by entry, and the pairs of two rows.
use Rattle.std.proofs.Common.{◌≡◌, ◌≢◌, ℕ, zero, suc, ◌+◌, ◌<◌, ◌≤◌, ◌==◌, Bool, true, false, List, [], ◌∷◌, ◌++◌, ℤ, length, map, take, drop, get_or, set, slice_set, refl, ap, sym, ◌∙◌, add-one, arith}
use Rattle.std.proofs.lemmas.Bool.Decides.{nat_tests}
use Rattle.std.proofs.lemmas.List.{get_or-set_same, get_or-set_other, map-append, drop-append-le, drop-take, drop-map, take_more_set}
use Rattle.std.proofs.Math.Seq.{take-suc, take-length}
use Rattle.num_fix.specs.declared.Frame.{Frame}

-- the entries of a row below a place, and that place
pub with_entry : {X : Type 0} (f : ℕ → X) (row : List X) (n : ℕ) (x d : X) → n < length row → ((j : ℕ) → j < n → get_or row j d ≡ f j) → x ≡ f n
    → (j : ℕ) → j < n + 1 → get_or (slice_set row n x) j d ≡ f j
with_entry f row n x d within before is j below = by (j == n) refl
  where
    by : (b : Bool) → (j == n) ≡ b → get_or (slice_set row n x) j d ≡ f j
    by true e = let here : j ≡ n = grind (arith, nat_tests, e) in rw here (get_or-set_same row n x d within ∙ is)
    by false e = let other : j ≢ n = grind (arith, nat_tests, e) in get_or-set_other row n j x d other ∙ before j (omega (arith, below, other))

pub take_all : {X : Type 0} (l : List X) (n : ℕ) → length l ≡ n → take n l ≡ l
take_all l n long = rw (← long) (take-length l)

-- a side of one pair more
pub row_more : (side : Frame → ℤ) (row : List ℤ) (pairs : List Frame) (k : ℕ) (x : ℤ) (pair : Frame) → k < length row → take k row ≡ map side pairs → x ≡ side pair
    → take (k + 1) (set row k x) ≡ map side (pairs ++ pair ∷ [])
row_more side row pairs k x pair within before is =
    take_more_set row k x within ∙ (rw (before, is) (sym (map-append side pairs (pair ∷ []))))

-- of the pairs of a list one more
pub pairs_more : (side : Frame → ℤ) (row : List ℤ) (pairs : List Frame) (k : ℕ) (x : ℤ) (d : Frame) → k < length row → k < length pairs
    → take k row ≡ map side (take k pairs) → x ≡ side (get_or pairs k d) → take (k + 1) (set row k x) ≡ map side (take (k + 1) pairs)
pairs_more side row pairs k x d within few before is =
    let more : take (k + 1) pairs ≡ take k pairs ++ get_or pairs k d ∷ [] = rw add-one (take-suc pairs k d few) in
    rw more (row_more side row (take k pairs) k x (get_or pairs k d) within before is)

drop_one_more : {X : Type 0} (l : List X) (n : ℕ) → drop 1 (drop n l) ≡ drop (suc n) l
drop_one_more [] zero = refl
drop_one_more [] (suc n) = refl
drop_one_more (x ∷ l) zero = refl
drop_one_more (x ∷ l) (suc n) = drop_one_more l n

-- the newest of a list that grows, without the oldest of them
pub drop_newest : {X : Type 0} (l : List X) (n : ℕ) (x : X) → suc n ≤ length l → drop 1 (drop n l) ++ x ∷ [] ≡ drop (suc n) (l ++ x ∷ [])
drop_newest l n x long = ap (λ (rest : List _). rest ++ x ∷ []) (drop_one_more l n) ∙ sym (drop-append-le (suc n) l (x ∷ []) long)

-- eight samples of a row are a side of eight pairs
pub window_of : (side : Frame → ℤ) (row : List ℤ) (pairs : List Frame) (n : ℕ) → take (n + 8) row ≡ map side pairs → take 8 (drop n row) ≡ map side (drop n pairs)
window_of side row pairs n same = sym (drop-take n 8 row) ∙ ap (drop n) same ∙ drop-map side n pairs
