-- How the bytes of a piece, and those still to come, make up those that were to come; pieces before the fade.
use Rattle.std.proofs.Common.{◌≡◌, ℕ, ◌+◌, ◌-◌, ◌≤◌, List, [], ◌∷◌, ◌++◌, length, nat_lt, true, refl, ap, sym, ◌∙◌, arith}
use Rattle.std.specs.List.{flat_map}
use Rattle.std.proofs.lemmas.List.{append_assoc}
use Rattle.std.proofs.lemmas.Grind.{flat_map-append}
use Rattle.std.proofs.lemmas.Bool.Decides.{nat_tests}
use Rattle.num_fix.specs.declared.Frame.{Frame}
use Rattle.wav_form.specs.Wave.{frame_bytes, header_of, stereo_wave}
use Rattle.render_core.specs.Fade.{faded_from, faded_frames}
use Rattle.render_core.proofs.FadedFrames.{faded_from-append, length-faded_from}

-- frames that all come before the fade stay as they are
pub before_the_fade : (list : List Frame) (at frames fade : ℕ) → at + length list ≤ frames - fade → faded_from at frames fade list ≡ list
before_the_fade [] at frames fade h = refl
before_the_fade (frame ∷ list) at frames fade h =
    let first : nat_lt at (frames - fade) ≡ true = grind (arith, nat_tests) in
    rw (first, before_the_fade list (at + 1) frames fade (omega arith)) refl

-- of all frames to come these are given, and the rest is then to come
pub given_first : (wave now : List ℕ) (all given rest : List Frame) (made next frames fade : ℕ) → all ≡ given ++ rest →
    now ≡ wave ++ flat_map frame_bytes (faded_from made frames fade given) → next ≡ made + length given →
    wave ++ flat_map frame_bytes (faded_from made frames fade all) ≡ now ++ flat_map frame_bytes (faded_from next frames fade rest)
given_first wave now all given rest made next frames fade split added place =
    ap (λ (l : List Frame). wave ++ flat_map frame_bytes (faded_from made frames fade l)) split
    ∙ ap (λ (l : List Frame). wave ++ flat_map frame_bytes l) (faded_from-append given rest made frames fade)
    ∙ ap (λ (l : List ℕ). wave ++ l) (flat_map-append frame_bytes (faded_from made frames fade given) (faded_from (made + length given) frames fade rest))
    ∙ sym (append_assoc wave (flat_map frame_bytes (faded_from made frames fade given)) (flat_map frame_bytes (faded_from (made + length given) frames fade rest)))
    ∙ ap (λ (l : List ℕ). l ++ flat_map frame_bytes (faded_from (made + length given) frames fade rest)) (sym added)
    ∙ ap (λ (n : ℕ). now ++ flat_map frame_bytes (faded_from n frames fade rest)) (sym place)

-- before the first piece the header and what is to come are the whole file
pub whole_wave : (to_come frames : List Frame) (samples fade : ℕ) → to_come ≡ frames → length to_come ≡ samples →
    header_of 2 samples ++ flat_map frame_bytes (faded_from 0 samples fade to_come) ≡ stereo_wave (faded_frames frames fade)
whole_wave to_come frames samples fade same count =
    ap (λ (l : List Frame). header_of 2 samples ++ flat_map frame_bytes (faded_from 0 samples fade l)) same
    ∙ ap (λ (n : ℕ). header_of 2 n ++ flat_map frame_bytes (faded_from 0 n fade frames)) (sym count ∙ ap length same)
    ∙ ap (λ (n : ℕ). header_of 2 n ++ flat_map frame_bytes (faded_from 0 (length frames) fade frames)) (sym (length-faded_from frames 0 (length frames) fade))

-- frames that were played stand with those that were made before
pub moved : (wave now : List ℕ) (played before after rest later : List Frame) → now ≡ wave ++ flat_map frame_bytes played → played ++ after ≡ before → later ≡ rest
    → wave ++ flat_map frame_bytes (before ++ rest) ≡ now ++ flat_map frame_bytes (after ++ later)
moved wave now played before after rest later added split same =
    ap (λ (l : List Frame). wave ++ flat_map frame_bytes (l ++ rest)) (sym split)
    ∙ ap (λ (l : List Frame). wave ++ flat_map frame_bytes l) (append_assoc played after rest)
    ∙ ap (λ (l : List ℕ). wave ++ l) (flat_map-append frame_bytes played (after ++ rest))
    ∙ sym (append_assoc wave (flat_map frame_bytes played) (flat_map frame_bytes (after ++ rest)))
    ∙ ap (λ (l : List ℕ). l ++ flat_map frame_bytes (after ++ rest)) (sym added)
    ∙ ap (λ (l : List Frame). now ++ flat_map frame_bytes (after ++ l)) (sym same)
