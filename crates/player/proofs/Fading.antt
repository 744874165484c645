-- Frames that are faded one by one, and parts of a whole list that fades.
use Rattle.std.proofs.Common.{◌≡◌, ◌∙◌, ap, sym, refl, subst, inl, inr, ℕ, zero, suc, ◌+◌, ◌-◌, ◌<◌, ◌≤◌, min, nat_lt, List, [], ◌∷◌, ◌++◌, length, take, drop, map, get_or, set, arith}
use Rattle.std.proofs.Math.Seq.{take-append_seam}
use Rattle.std.proofs.lemmas.Bool.{cases_Bool}
use Rattle.std.proofs.lemmas.Bool.Decides.{nat_tests}
use Rattle.std.proofs.lemmas.Slice.{drop-append-drop}
use Rattle.std.proofs.lemmas.List.{drop_all, append-nil, take_more, take_more_set, drop-take, drop-set-lt, map-append, length-map, length-take-le, get_or-drop}
use Rattle.std.proofs.lemmas.Grind.{drop_more_same}
use Rattle.num_fix.specs.declared.Frame.{Frame}
use Rattle.render_core.specs.Fade.{faded_frame, faded_from, faded_frames}
use Rattle.render_core.proofs.FadedFrames.{faded_from-append}
use Rattle.cut_form.specs.Slices.{slice_of}
use Rattle.cut_form.specs.GrowingFrames.{AreOfRun}
use Rattle.cut_form.proofs.Slices.{slice_none, length-slice}
use Rattle.player.specs.declared.output.StereoFrame.{StereoFrame}
use Rattle.player.specs.Output.{stereo, as_frame}

drop-faded : (k at frames fade : ℕ) (list : List Frame) → drop k (faded_from at frames fade list) ≡ faded_from (at + k) frames fade (drop k list)
drop-faded zero at frames fade list = let same : at ≡ at + 0 = omega arith in ap (λ n. faded_from n frames fade list) same
drop-faded (suc k) at frames fade [] = refl
drop-faded (suc k) at frames fade (frame ∷ list) =
    let same : (at + 1) + k ≡ at + suc k = omega arith in
    drop-faded k (at + 1) frames fade list ∙ ap (λ n. faded_from n frames fade (drop k list)) same

take-faded : (k at frames fade : ℕ) (list : List Frame) → take k (faded_from at frames fade list) ≡ faded_from at frames fade (take k list)
take-faded zero at frames fade list = refl
take-faded (suc k) at frames fade [] = refl
take-faded (suc k) at frames fade (frame ∷ list) = ap (λ rest. faded_frame frame at frames fade ∷ rest) (take-faded k (at + 1) frames fade list)

-- so many frames from a place on of a run of some length that fades
pub faded_part : (f : ℕ → List Frame) (at count frames fade : ℕ) → AreOfRun f → at + count ≤ frames
    → take count (drop at (faded_frames (f frames) fade)) ≡ faded_from at frames fade (slice_of f at count)
faded_part f at count frames fade run within =
    ap (λ n. take count (drop at (faded_from 0 n fade (f frames)))) (run.count frames)
    ∙ ap (take count) (drop-faded at 0 frames fade (f frames))
    ∙ take-faded count (0 + at) frames fade (drop at (f frames))
    ∙ ap (λ l. faded_from (0 + at) frames fade l) (sym (drop-take at count (f frames)) ∙ ap (drop at) (run.grows (at + count) frames within))
    ∙ (let same : 0 + at ≡ at = omega arith in ap (λ n. faded_from n frames fade (slice_of f at count)) same)

-- a caller's frames are the frames again
pub frames_back : (frames : List Frame) → map as_frame (map stereo frames) ≡ frames
frames_back [] = refl
frames_back (frame ∷ frames) = ap (λ rest. frame ∷ rest) (frames_back frames)

-- what was played into the front of an array is faded there, and the rest of the array stays
faded_front : (f : ℕ → List Frame) (at count frames fade : ℕ) (out played faded : List StereoFrame) → AreOfRun f → at + count ≤ frames → count ≤ length out
    → played ≡ map stereo (slice_of f at count) → faded ≡ map stereo (faded_from at frames fade (map as_frame (take count (played ++ drop count out))))
    → faded ++ drop count (played ++ drop count out) ≡ map stereo (take count (drop at (faded_frames (f frames) fade))) ++ drop count out
faded_front f at count frames fade out played faded run within room is_played is_faded =
    let size : length played ≡ count = ap length is_played ∙ length-map (slice_of f at count) stereo ∙ length-slice f at count run in
    let front : take count (played ++ drop count out) ≡ played = ap (λ n. take n (played ++ drop count out)) (sym size) ∙ take-append_seam played (drop count out) in
    let rest : drop count (played ++ drop count out) ≡ drop count out = drop-append-drop count out played count (omega arith) size in
    ap (λ (l : List StereoFrame). faded ++ l) rest
    ∙ ap (λ (l : List StereoFrame). l ++ drop count out)
    (is_faded
    ∙ ap (λ (l : List StereoFrame). map stereo (faded_from at frames fade (map as_frame l))) (front ∙ is_played)
    ∙ ap (λ (l : List Frame). map stereo (faded_from at frames fade l)) (frames_back (slice_of f at count))
    ∙ ap (map stereo) (sym (faded_part f at count frames fade run within)))

none_faded : (f : ℕ → List Frame) (at frames fade : ℕ) (out played faded : List StereoFrame) → played ≡ [] → faded ≡ map stereo (faded_from at frames fade (map as_frame (take 0 (played ++ drop 0 out))))
    → faded ++ drop 0 (played ++ drop 0 out) ≡ map stereo (take 0 (drop at (faded_frames (f frames) fade))) ++ drop 0 out
none_faded f at frames fade out played faded none is = ap (λ (l : List StereoFrame). l ++ (played ++ out)) is ∙ ap (λ (l : List StereoFrame). l ++ out) none

pub faded_played : (f : ℕ → List Frame) (at count given most frames fade : ℕ) (played out faded : List StereoFrame) → AreOfRun f → count ≤ frames - at → count ≤ length out
    → given ≡ min (length (take count out)) most → count ≤ most → played ≡ map stereo (slice_of f at given) ++ drop given (take count out)
    → faded ≡ map stereo (faded_from at frames fade (map as_frame (take count (played ++ drop count out))))
    → faded ++ drop count (played ++ drop count out) ≡ map stereo (take count (drop at (faded_frames (f frames) fade))) ++ drop count out
faded_played f at count given most frames fade played out faded run within room is_given few is_played is_faded =
    let size : length (take count out) ≡ count = length-take-le count out room in
    let all : given ≡ count = omega (arith, is_given, size, few) in
    let exactly : played ≡ map stereo (slice_of f at count) =
    is_played ∙ ap (λ n. map stereo (slice_of f at n) ++ drop n (take count out)) all
    ∙ ap (λ (l : List StereoFrame). map stereo (slice_of f at count) ++ l) (drop_all count (take count out) (omega (arith, size))) ∙ append-nil (map stereo (slice_of f at count)) in
    elim (cases_Bool (nat_lt 0 count)) [
      | inl some ↦ let later : 0 < count = grind (arith, nat_tests, some) in faded_front f at count frames fade out played faded run (omega (arith, within, later)) room exactly is_faded
      | inr nothing ↦
          let none : count ≡ 0 = grind (arith, nat_tests, nothing) in
          let empty : played ≡ [] = exactly ∙ ap (map stereo) (slice_none f at count run none) in
          subst (λ n. faded ++ drop n (played ++ drop n out) ≡ map stereo (take n (drop at (faded_frames (f frames) fade))) ++ drop n out) (sym none)
          (none_faded f at frames fade out played faded empty (subst (λ n. faded ≡ map stereo (faded_from at frames fade (map as_frame (take n (played ++ drop n out))))) none is_faded))
    ]

-- one more frame is faded
module _ (at frames fade : ℕ) (out first : List StereoFrame) (none : StereoFrame) (place : ℕ) (y : StereoFrame) where
  same_entry : drop place out ≡ drop place first → get_or out place none ≡ get_or first place none
  same_entry rest =
      let here : place + 0 ≡ place = omega arith in
      ap (λ n. get_or out n none) (sym here) ∙ sym (get_or-drop place out 0 none) ∙ ap (λ (l : List StereoFrame). get_or l 0 none) rest ∙ get_or-drop place first 0 none ∙ ap (λ n. get_or first n none) here

  more_faded : place < length first
      → map stereo (faded_from at frames fade (map as_frame (take (place + 1) first)))
      ≡ map stereo (faded_from at frames fade (map as_frame (take place first))) ++ stereo (faded_frame (as_frame (get_or first place none)) (at + place) frames fade) ∷ []
  more_faded within =
      let before : List Frame = map as_frame (take place first) in
      let x : Frame = as_frame (get_or first place none) in
      let count : length before ≡ place = length-map (take place first) as_frame ∙ length-take-le place first (omega (arith, within)) in
      ap (λ (l : List StereoFrame). map stereo (faded_from at frames fade (map as_frame l))) (take_more first place none within)
      ∙ ap (λ (l : List Frame). map stereo (faded_from at frames fade l)) (map-append as_frame (take place first) (get_or first place none ∷ []))
      ∙ ap (map stereo) (faded_from-append before (x ∷ []) at frames fade)
      ∙ map-append stereo (faded_from at frames fade before) (faded_from (at + length before) frames fade (x ∷ []))
      ∙ ap (λ n. map stereo (faded_from at frames fade before) ++ stereo (faded_frame x (at + n) frames fade) ∷ []) count

  pub fade_more : place < length first → place < length out → y ≡ stereo (faded_frame (as_frame (get_or out place none)) (at + place) frames fade)
      → take place out ≡ map stereo (faded_from at frames fade (map as_frame (take place first))) → drop place out ≡ drop place first
      → take (place + 1) (set out place y) ≡ map stereo (faded_from at frames fade (map as_frame (take (place + 1) first)))
  fade_more within room is so_far rest =
      take_more_set out place y room
      ∙ ap (λ (l : List StereoFrame). l ++ y ∷ []) so_far
      ∙ ap (λ (e : StereoFrame). map stereo (faded_from at frames fade (map as_frame (take place first))) ++ e ∷ []) (is ∙ ap (λ (e : StereoFrame). stereo (faded_frame (as_frame e) (at + place) frames fade)) (same_entry rest))
      ∙ sym (more_faded within)

  pub leave_rest : drop place out ≡ drop place first → drop (place + 1) (set out place y) ≡ drop (place + 1) first
  leave_rest rest = drop-set-lt (place + 1) out place y (omega arith) ∙ drop_more_same out first place rest
