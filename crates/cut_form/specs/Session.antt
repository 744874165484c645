-- A session: what comes of the lines of a script, one after another, and the replies to them (own).
use Rattle.std.specs.Prelude.{ℕ, ◌+◌, ◌-◌, not, ◌&&◌, ◌==◌, nat_le, if◌then◌else◌, List, [], ◌∷◌, ◌++◌, length, codes, decimal}
use Rattle.num_fix.specs.Limits.{max_frames}
use Rattle.cut_form.specs.declared.cut.Cut.{Cut}
use Rattle.cut_form.specs.declared.mark.Marked.{Marked}
use Rattle.cut_form.specs.declared.mark.Marked.TheVariants.{Kept, Taken, NoPages}
use Rattle.cut_form.specs.declared.script.ScriptLine.{ScriptLine}
use Rattle.cut_form.specs.declared.script.ScriptLine.TheVariants.{Seek, Play, Mark, Drop, Free}
use Rattle.cut_form.specs.declared.script.Reply.{Reply}
use Rattle.cut_form.specs.declared.script.Reply.TheVariants.{At, Played, Refused, AfterMark, Dropped, NoneAt, Counted}
use Rattle.cut_form.specs.Checkpoints.{stands_at, slots_free}
use Rattle.cut_form.specs.CutBook.{CutBook, opened_book, after_seek, after_play, with_live, without_one}
use Rattle.cut_form.specs.Marks.{mark_here}

pub record Session : Type 0 where
  pub book : CutBook
  -- the frames played so far
  pub frames : ℕ

-- what comes of a line
pub record LineOutcome : Type 0 where
  pub session : Session
  pub reply : Reply

abbrev pub opened_session : (pages_at : ℕ → List (List ℕ)) → Session
opened_session pages_at = record { book = opened_book pages_at; frames = 0 }

-- once so many frames more are played
abbrev pub with_played : Session → (count : ℕ) → Session
with_played session count = record { book = after_play session.book count; frames = session.frames + count }

-- frames are played where neither their end nor all frames of the session together are more than an hour
abbrev pub after_play_line : Session → (count : ℕ) → LineOutcome
after_play_line session count =
    if nat_le (session.book.position + count) max_frames && nat_le (session.frames + count) max_frames
    then record { session = with_played session count; reply = Played count (session.book.position + count) }
    else record { session = session; reply = Refused count }

abbrev pub after_mark_line : (slots : ℕ) → (pages_at : ℕ → List (List ℕ)) → Session → LineOutcome
after_mark_line slots pages_at session =
    let outcome = mark_here slots pages_at session.book in
    record { session = record session { book = with_live session.book outcome.live }; reply = AfterMark session.book.position outcome.marked }

-- the checkpoint of sample 0 is never dropped
abbrev pub after_drop_line : Session → (sample : ℕ) → LineOutcome
after_drop_line session sample =
    if not (sample == 0) && stands_at session.book.live sample
    then record { session = record session { book = without_one session.book sample }; reply = Dropped sample }
    else record { session = session; reply = NoneAt sample }

-- a line, over so many slots
abbrev pub after_line : (slots : ℕ) → (pages_at : ℕ → List (List ℕ)) → Session → ScriptLine → LineOutcome
after_line slots pages_at session (Seek at) = record { session = record session { book = after_seek session.book at }; reply = At at }
after_line slots pages_at session (Play count) = after_play_line session count
after_line slots pages_at session Mark = after_mark_line slots pages_at session
after_line slots pages_at session (Drop sample) = after_drop_line session sample
after_line slots pages_at session Free =
    record { session = session; reply = Counted (slots_free slots session.book.live) (length session.book.live) session.book.made }

-- the replies to lines, one after another
abbrev pub replies : (slots : ℕ) → (pages_at : ℕ → List (List ℕ)) → Session → List ScriptLine → List Reply
replies slots pages_at session [] = []
replies slots pages_at session (line ∷ lines) =
    let outcome = after_line slots pages_at session line in
    outcome.reply ∷ replies slots pages_at outcome.session lines

-- the cuts that were played, as the replies show
abbrev pub played_cuts : List Reply → List Cut
played_cuts [] = []
played_cuts (Played count at ∷ rest) = record { start = at - count; count = count } ∷ played_cuts rest
played_cuts (At at ∷ rest) = played_cuts rest
played_cuts (Refused count ∷ rest) = played_cuts rest
played_cuts (AfterMark at marked ∷ rest) = played_cuts rest
played_cuts (Dropped sample ∷ rest) = played_cuts rest
played_cuts (NoneAt sample ∷ rest) = played_cuts rest
played_cuts (Counted left marks made ∷ rest) = played_cuts rest

-- The text of the replies.

abbrev pub mark_text : (position : ℕ) → Marked → List ℕ
mark_text position Kept = codes "kept " ++ decimal position
mark_text position (Taken gave) = codes "mark " ++ decimal position ++ codes " gave " ++ decimal gave
mark_text position (NoPages gave need left) = codes "no pages need " ++ decimal need ++ codes " free " ++ decimal left

abbrev pub reply_text : Reply → List ℕ
reply_text (At at) = codes "at " ++ decimal at
reply_text (Played count at) = codes "played " ++ decimal count ++ codes " at " ++ decimal at
reply_text (Refused count) = codes "refused " ++ decimal count
reply_text (AfterMark at marked) = mark_text at marked
reply_text (Dropped sample) = codes "dropped " ++ decimal sample
reply_text (NoneAt sample) = codes "none " ++ decimal sample
reply_text (Counted left marks made) = codes "free " ++ decimal left ++ codes " marks " ++ decimal marks ++ codes " made " ++ decimal made
