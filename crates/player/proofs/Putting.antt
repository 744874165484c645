-- One more frame is put.
use Rattle.std.proofs.Common.{◌≡◌, ◌∙◌, ap, sym, refl, ℕ, ◌+◌, ◌-◌, ◌<◌, ◌≤◌, List, [], ◌∷◌, ◌++◌, length, take, drop, map, get_or, set, arith, append_assoc}
use Rattle.std.proofs.Math.Seq.{take-append_seam}
use Rattle.std.proofs.lemmas.List.{take_more_set, map_more, drop-set-lt, map-append, length-map}
use Rattle.std.proofs.lemmas.Grind.{drop_more_same}
use Rattle.std.proofs.lemmas.Slice.{drop-append-drop}
use Rattle.cut_form.specs.Slices.{slice_of}
use Rattle.cut_form.specs.GrowingFrames.{AreOfRun}
use Rattle.cut_form.proofs.Slices.{slice_none, slice_parts, length-slice}

module _ {A B : Type 0} (f : A → B) (before : List B) (frames : List A) (none : A) (out first : List B) (from place : ℕ) (y : B) where
  pub put_more : place < length frames → from + place < length out → y ≡ f (get_or frames place none) → take (from + place) out ≡ before ++ map f (take place frames)
      → take (from + (place + 1)) (set out (from + place) y) ≡ before ++ map f (take (place + 1) frames)
  put_more within room is so_far =
      let next : from + (place + 1) ≡ (from + place) + 1 = omega arith in
      ap (λ (n : ℕ). take n (set out (from + place) y)) next
      ∙ take_more_set out (from + place) y room
      ∙ ap (λ (l : List B). l ++ y ∷ []) so_far
      ∙ append_assoc before (map f (take place frames)) (y ∷ [])
      ∙ ap (λ (x : B). before ++ (map f (take place frames) ++ x ∷ [])) is
      ∙ ap (λ (l : List B). before ++ l) (sym (map_more f frames place none within))

  pub leave_more : drop (from + place) out ≡ drop (from + place) first
      → drop (from + (place + 1)) (set out (from + place) y) ≡ drop (from + (place + 1)) first
  leave_more so_far =
      let next : from + (place + 1) ≡ (from + place) + 1 = omega arith in
      drop-set-lt (from + (place + 1)) out (from + place) y (omega arith)
      ∙ ap (λ (n : ℕ). drop n out) next
      ∙ drop_more_same out first (from + place) so_far
      ∙ ap (λ (n : ℕ). drop n first) (sym next)

-- More of a run is played, behind what was played.
module _ {A B : Type 0} (h : A → B) (f g : ℕ → List A) (at next done more : ℕ) (out first now : List B) where
  pub played_more : AreOfRun f → g ≡ f → next ≡ at + done → out ≡ map h (slice_of f at done) ++ drop done first
      → now ≡ take done out ++ map h (slice_of g next more) ++ drop (done + more) out
      → now ≡ map h (slice_of f at (done + more)) ++ drop (done + more) first
  played_more run same there before is =
      let played : List B = map h (slice_of f at done) in
      let count : length played ≡ done = length-map (slice_of f at done) h ∙ length-slice f at done run in
      let kept : take done out ≡ played = ap (take done) before ∙ ap (λ (n : ℕ). take n (played ++ drop done first)) (sym count) ∙ take-append_seam played (drop done first) in
      let left : drop (done + more) out ≡ drop (done + more) first = ap (drop (done + more)) before ∙ drop-append-drop done first played (done + more) (omega arith) count in
      let within : done ≤ done + more = omega arith in
      let rest : (done + more) - done ≡ more = omega arith in
      let joined : slice_of f at done ++ slice_of f (at + done) more ≡ slice_of f at (done + more) =
      ap (λ (n : ℕ). slice_of f at done ++ slice_of f (at + done) n) (sym rest) ∙ slice_parts f at done (done + more) run within in
      is
      ∙ ap (λ (l : List B). l ++ map h (slice_of g next more) ++ drop (done + more) out) kept
      ∙ ap (λ (l : List B). played ++ map h (slice_of g next more) ++ l) left
      ∙ ap (λ (r : ℕ → List A). played ++ map h (slice_of r next more) ++ drop (done + more) first) same
      ∙ ap (λ (n : ℕ). played ++ map h (slice_of f n more) ++ drop (done + more) first) there
      ∙ ap (λ (l : List B). l ++ drop (done + more) first) (sym (map-append h (slice_of f at done) (slice_of f (at + done) more)) ∙ ap (map h) joined)

-- nothing is played yet
pub played_none : {A B : Type 0} (h : A → B) (f : ℕ → List A) (at : ℕ) (out : List B) → AreOfRun f → out ≡ map h (slice_of f at 0) ++ drop 0 out
played_none h f at out run = ap (λ l. map h l ++ out) (sym (slice_none f at 0 run refl))
