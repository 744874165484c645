-- Slices of a run, in parts.
use Rattle.std.proofs.Common.{◌≡◌, ◌∙◌, sym, ap, ℕ, suc, ◌+◌, ◌-◌, ◌≤◌, List, [], ◌∷◌, ◌++◌, length, take, drop, Some, arith, add-one, drop-cons}
use Rattle.std.proofs.lemmas.List.{drop-append-le, take-append-drop, drop_all, length-append, length-drop}
use Rattle.std.proofs.lemmas.List.Concat.{flat_map-cons}
use Rattle.std.specs.List.{slice_get}
use Rattle.std.proofs.lemmas.Option.{slice_get_within, get_or_from_slice_get}
use Rattle.cut_form.specs.declared.cut.Cut.{Cut}
use Rattle.cut_form.specs.Slices.{slice_of, cut_frames}
use Rattle.cut_form.specs.GrowingFrames.{AreOfRun}

-- a slice without frames
pub slice_none : {A : Type 0} (f : ℕ → List A) (at left : ℕ) → AreOfRun f → left ≡ 0 → slice_of f at left ≡ []
slice_none f at left run none = drop_all at (f (at + left)) (omega (arith, run.count (at + left), none))

-- how many frames a slice has
pub length-slice : {A : Type 0} (f : ℕ → List A) (at count : ℕ) → AreOfRun f → length (slice_of f at count) ≡ count
length-slice f at count run = omega (arith, run.count (at + count), length-drop at (f (at + count)))

-- a slice in two parts
pub slice_parts : {A : Type 0} (f : ℕ → List A) (at most left : ℕ) → AreOfRun f → most ≤ left → slice_of f at most ++ slice_of f (at + most) (left - most) ≡ slice_of f at left
slice_parts {A} f at most left run within =
    let all : (at + most) + (left - most) ≡ at + left = omega (arith, within) in
    let part : take (at + most) (f (at + left)) ≡ f (at + most) = run.grows (at + most) (at + left) (omega (arith, within)) in
    let few : at ≤ length (take (at + most) (f (at + left))) = omega (arith, ap length part, run.count (at + most)) in
    ap (λ (l : List A). drop at l ++ drop (at + most) (f ((at + most) + (left - most)))) (sym part)
    ∙ ap (λ (n : ℕ). drop at (take (at + most) (f (at + left))) ++ drop (at + most) (f n)) all
    ∙ sym (drop-append-le at (take (at + most) (f (at + left))) (drop (at + most) (f (at + left))) few)
    ∙ ap (drop at) (take-append-drop (at + most) (f (at + left)))

-- the same once a server has played the first part
pub played_part : {A : Type 0} (f g : ℕ → List A) (at next most left : ℕ) (played : List A) → AreOfRun f → g ≡ f → next ≡ at + most → most ≤ left → played ≡ slice_of f at most
    → played ++ slice_of g next (left - most) ≡ slice_of f at left
played_part {A} f g at next most left played run same there within is =
    ap (λ (l : List A). l ++ slice_of g next (left - most)) is
    ∙ ap (λ (h : ℕ → List A). slice_of f at most ++ slice_of h next (left - most)) same
    ∙ ap (λ (n : ℕ). slice_of f at most ++ slice_of f n (left - most)) there
    ∙ slice_parts f at most left run within

-- how many frames cuts have: those of the first, and then of the others
pub length-cuts : {A : Type 0} (f : ℕ → List A) → AreOfRun f → (cut : Cut) (cuts : List Cut) → length (cut_frames f (cut ∷ cuts)) ≡ cut.count + length (cut_frames f cuts)
length-cuts f run cut cuts =
    ap length (flat_map-cons (λ (c : Cut). slice_of f c.start c.count) cut cuts)
    ∙ length-append (slice_of f cut.start cut.count) (cut_frames f cuts)
    ∙ ap (λ (n : ℕ). n + length (cut_frames f cuts)) (length-slice f cut.start cut.count run)

-- a list from an entry on
pub drop_at : {A : Type 0} (xs : List A) (i : ℕ) (x : A) → slice_get xs i ≡ Some x → drop i xs ≡ x ∷ drop (i + 1) xs
drop_at {A} xs i x is = rw (add-one, drop-cons xs i x (slice_get_within xs i x is)) (ap (λ (y : A). y ∷ drop (suc i) xs) (get_or_from_slice_get xs i x x is))
