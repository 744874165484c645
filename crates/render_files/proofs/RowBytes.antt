-- Rows of frames, one after another, as bytes.
use Rattle.std.proofs.Common.{◌≡◌, ℕ, ◌+◌, ◌-◌, ◌*◌, ◌≤◌, List, [], ◌∷◌, ◌++◌, length, take, drop, ap, sym, refl, ◌∙◌, arith}
use Rattle.std.specs.List.{flat_map}
use Rattle.std.proofs.lemmas.List.{append_assoc, take-append-drop, drop-drop}
use Rattle.std.proofs.lemmas.Grind.{flat_map-append}
use Rattle.num_fix.specs.declared.Frame.{Frame}
use Rattle.wav_form.specs.Wave.{frame_bytes}

-- each frame has four bytes
pub length-frames : (frames : List Frame) → length (flat_map frame_bytes frames) ≡ 4 * length frames
length-frames [] = refl
length-frames (frame ∷ frames) = let rest = length-frames frames in omega arith

-- the frames from one place to another were added, and those after it are still to come
pub row_added : (wave now : List ℕ) (frames : List Frame) (at end : ℕ) → at ≤ end → now ≡ wave ++ flat_map frame_bytes (take (end - at) (drop at frames)) →
    now ++ flat_map frame_bytes (drop end frames) ≡ wave ++ flat_map frame_bytes (drop at frames)
row_added wave now frames at end h added =
    let row : List Frame = take (end - at) (drop at frames) in
    let place : at + (end - at) ≡ end = omega arith in
    ap (λ (l : List ℕ). l ++ flat_map frame_bytes (drop end frames)) added
    ∙ append_assoc wave (flat_map frame_bytes row) (flat_map frame_bytes (drop end frames))
    ∙ ap (λ (n : ℕ). wave ++ (flat_map frame_bytes row ++ flat_map frame_bytes (drop n frames))) (sym place)
    ∙ ap (λ (l : List Frame). wave ++ (flat_map frame_bytes row ++ flat_map frame_bytes l)) (sym (drop-drop (end - at) at frames))
    ∙ ap (λ (l : List ℕ). wave ++ l) (sym (flat_map-append frame_bytes row (drop (end - at) (drop at frames))))
    ∙ ap (λ (l : List Frame). wave ++ flat_map frame_bytes l) (take-append-drop (end - at) (drop at frames))
