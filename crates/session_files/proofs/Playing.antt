-- The frames of a session, part by part.
use Rattle.std.proofs.Common.{◌≡◌, ◌∙◌, ap, refl, ℕ, suc, ◌+◌, ◌-◌, Bool, true, false, List, [], ◌∷◌, ◌++◌, length, drop, Some, arith, add-one, drop-cons}
use Rattle.std.specs.List.{slice_get}
use Rattle.std.specs.Prelude.{not, ◌&&◌, ◌==◌, nat_le, if◌then◌else◌}
use Rattle.std.proofs.lemmas.Option.{slice_get_within, get_or_from_slice_get}
use Rattle.num_fix.specs.Limits.{max_frames}
use Rattle.std.proofs.lemmas.Grind.{flat_map-append}
use Rattle.cut_form.specs.declared.cut.Cut.{Cut}
use Rattle.cut_form.specs.declared.script.Reply.{Reply}
use Rattle.cut_form.specs.declared.script.Reply.TheVariants.{At, Played, Refused, AfterMark, Dropped, NoneAt, Counted}
use Rattle.cut_form.specs.Slices.{slice_of, cut_frames}
use Rattle.cut_form.specs.declared.script.ScriptLine.{ScriptLine}
use Rattle.cut_form.specs.declared.script.ScriptLine.TheVariants.{Seek, Play, Mark, Drop, Free}
use Rattle.cut_form.specs.Checkpoints.{stands_at}
use Rattle.cut_form.specs.CutBook.{after_play, without_one}
use Rattle.cut_form.specs.Session.{Session, LineOutcome, after_line, replies, played_cuts}
use Rattle.cut_text.specs.Playing.{played_frames}
use Rattle.cut_form.specs.GrowingFrames.{AreOfRun}
use Rattle.cut_form.proofs.Slices.{length-cuts}

-- the cuts that replies show: those of the first, and then of the others
cuts_first : (reply : Reply) (rest : List Reply) → played_cuts (reply ∷ rest) ≡ played_cuts (reply ∷ []) ++ played_cuts rest
cuts_first (At at) rest = refl
cuts_first (Played count at) rest = refl
cuts_first (Refused count) rest = refl
cuts_first (AfterMark at marked) rest = refl
cuts_first (Dropped sample) rest = refl
cuts_first (NoneAt sample) rest = refl
cuts_first (Counted left marks made) rest = refl

pub frames_first : {A : Type 0} (f : ℕ → List A) (reply : Reply) (rest : List Reply) → cut_frames f (played_cuts (reply ∷ rest)) ≡ cut_frames f (played_cuts (reply ∷ [])) ++ cut_frames f (played_cuts rest)
frames_first f reply rest = ap (cut_frames f) (cuts_first reply rest) ∙ flat_map-append (λ (cut : Cut). slice_of f cut.start cut.count) (played_cuts (reply ∷ [])) (played_cuts rest)

-- what comes of one of two outcomes
length-one_of : {A : Type 0} (f : ℕ → List A) (slots : ℕ) (pages : ℕ → List (List ℕ)) (lines : List ScriptLine) (test : Bool) (one other : LineOutcome) (frames n m : ℕ)
    → length (cut_frames f (played_cuts (one.reply ∷ replies slots pages one.session lines))) + frames ≡ n
    → length (cut_frames f (played_cuts (other.reply ∷ replies slots pages other.session lines))) + frames ≡ m
    → length (cut_frames f (played_cuts ((if test then one else other).reply ∷ replies slots pages (if test then one else other).session lines))) + frames ≡ (if test then n else m)
length-one_of f slots pages lines true one other frames n m is_yes is_no = is_yes
length-one_of f slots pages lines false one other frames n m is_yes is_no = is_no

length-either : {A : Type 0} (f : ℕ → List A) (slots : ℕ) (pages : ℕ → List (List ℕ)) (lines : List ScriptLine) (test : Bool) (one other : LineOutcome) (frames n : ℕ)
    → length (cut_frames f (played_cuts (one.reply ∷ replies slots pages one.session lines))) + frames ≡ n
    → length (cut_frames f (played_cuts (other.reply ∷ replies slots pages other.session lines))) + frames ≡ n
    → length (cut_frames f (played_cuts ((if test then one else other).reply ∷ replies slots pages (if test then one else other).session lines))) + frames ≡ n
length-either f slots pages lines true one other frames n is_yes is_no = is_yes
length-either f slots pages lines false one other frames n is_yes is_no = is_no

-- How many frames a session plays is known from the lines that seek and play alone.
pub length-session : {A : Type 0} (f : ℕ → List A) → AreOfRun f → (slots : ℕ) (pages : ℕ → List (List ℕ)) (session : Session) (lines : List ScriptLine)
    → length (cut_frames f (played_cuts (replies slots pages session lines))) + session.frames ≡ played_frames session.book.position session.frames lines
length-session f run slots pages session [] = omega arith
length-session f run slots pages session (Seek at ∷ lines) = length-session f run slots pages (after_line slots pages session (Seek at)).session lines
length-session f run slots pages session (Play count ∷ lines) =
    let book = session.book in
    let one : LineOutcome = record { session = record { book = after_play book count; frames = session.frames + count }; reply = Played count (book.position + count) } in
    let other : LineOutcome = record { session = session; reply = Refused count } in
    let rest = replies slots pages one.session lines in
    let cut : Cut = record { start = (book.position + count) - count; count = count } in
    let more : (count + length (cut_frames f (played_cuts rest))) + session.frames ≡ length (cut_frames f (played_cuts rest)) + (session.frames + count) = omega arith in
    length-one_of f slots pages lines (nat_le (book.position + count) max_frames && nat_le (session.frames + count) max_frames) one other session.frames _ _
    (ap (λ (n : ℕ). n + session.frames) (length-cuts f run cut (played_cuts rest)) ∙ more ∙ length-session f run slots pages one.session lines)
    (length-session f run slots pages session lines)
length-session f run slots pages session (Mark ∷ lines) = length-session f run slots pages (after_line slots pages session Mark).session lines
length-session f run slots pages session (Drop sample ∷ lines) =
    let one : LineOutcome = record { session = record session { book = without_one session.book sample }; reply = Dropped sample } in
    let other : LineOutcome = record { session = session; reply = NoneAt sample } in
    length-either f slots pages lines (not (sample == 0) && stands_at session.book.live sample) one other session.frames _
    (length-session f run slots pages one.session lines) (length-session f run slots pages session lines)
length-session f run slots pages session (Free ∷ lines) = length-session f run slots pages session lines
