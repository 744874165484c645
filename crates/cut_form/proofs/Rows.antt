-- Worked examples of the definitions, over given pages.
use Rattle.std.specs.Prelude.{◌≡◌, ℕ, nat_lt, if◌then◌else◌, List, [], ◌∷◌, length, replicate, slice_set, Ok, Err, codes}
use Rattle.std.proofs.Common.{refl}
use Rattle.cut_form.specs.declared.cut.Cut.{Cut}
use Rattle.cut_form.specs.declared.mark.Marked.TheVariants.{Kept, Taken, NoPages}
use Rattle.cut_form.specs.declared.script.ScriptLine.{ScriptLine}
use Rattle.cut_form.specs.declared.script.ScriptLine.TheVariants.{Seek, Play, Mark, Drop, Free}
use Rattle.cut_form.specs.declared.script.Reply.TheVariants.{At, Played, Refused, AfterMark, Dropped, NoneAt, Counted}
use Rattle.cut_form.specs.Checkpoints.{slots_used}
use Rattle.cut_form.specs.Slices.{cut_samples}
use Rattle.cut_form.specs.CutBook.{cut_book, max_played, max_played_bytes}
use Rattle.cut_form.specs.CutList.{cut_list}
use Rattle.cut_form.specs.Script.{script_lines}
use Rattle.cut_form.specs.Session.{opened_session, replies, played_cuts}

-- pages that stay as they are, each of one byte
still_pages : ℕ → List (List ℕ)
still_pages k = replicate 256 (0 ∷ [])

-- pages of which page 6 is another one from sample 65 on
changing_pages : ℕ → List (List ℕ)
changing_pages k = if nat_lt k 65 then still_pages k else slice_set (still_pages k) 6 (1 ∷ [])

cut : ℕ → ℕ → Cut
cut start count = record { start = start; count = count }

-- the samples played, the checkpoints, the slots in use, the samples made
numbers : (ℕ → List (List ℕ)) → List Cut → List ℕ
numbers pages_at cuts =
    let book = cut_book pages_at cuts in
    cut_samples cuts ∷ length book.live ∷ slots_used book.live ∷ book.made ∷ []

two_cuts : numbers still_pages (cut 6 2 ∷ cut 0 8 ∷ []) ≡ 10 ∷ 2 ∷ 256 ∷ 16 ∷ []
unfolding still_pages cut numbers
two_cuts = refl

cuts_over_a_changing_page : numbers changing_pages (cut 0 1 ∷ cut 70 1 ∷ cut 60 2 ∷ []) ≡ 4 ∷ 3 ∷ 258 ∷ 133 ∷ []
unfolding still_pages changing_pages cut numbers
cuts_over_a_changing_page = refl

script_of_257_slots : List ScriptLine
script_of_257_slots = Play 70 ∷ Mark ∷ Seek 60 ∷ Mark ∷ Free ∷ Drop 60 ∷ Drop 0 ∷ Free ∷ []

session_of_257_slots : replies 257 changing_pages (opened_session changing_pages) script_of_257_slots
    ≡ Played 70 70 ∷ AfterMark 70 (Taken 0) ∷ At 60 ∷ AfterMark 60 (Taken 1) ∷ Counted 1 2 130 ∷ Dropped 60 ∷ NoneAt 0 ∷ Counted 1 1 130 ∷ []
unfolding still_pages changing_pages script_of_257_slots
session_of_257_slots = refl

cuts_of_257_slots : played_cuts (replies 257 changing_pages (opened_session changing_pages) script_of_257_slots) ≡ cut 0 70 ∷ []
unfolding still_pages changing_pages cut script_of_257_slots
cuts_of_257_slots = refl

session_of_256_slots : replies 256 changing_pages (opened_session changing_pages) (Play 70 ∷ Mark ∷ []) ≡ Played 70 70 ∷ AfterMark 70 (NoPages 0 1 0) ∷ []
unfolding still_pages changing_pages
session_of_256_slots = refl

session_that_refuses : replies 4096 still_pages (opened_session still_pages) (Play 1 ∷ Play 115200000 ∷ Seek 0 ∷ Mark ∷ []) ≡ Played 1 1 ∷ Refused 115200000 ∷ At 0 ∷ AfterMark 0 Kept ∷ []
unfolding still_pages
session_that_refuses = refl

lists_of_cuts : (cut_list [] ≡ Ok []) × (cut_list (codes "5") ≡ Err 1) × (cut_list (codes "115200000 1") ≡ Err 1) × (cut_list (codes "6 2\r\n007 8\r") ≡ Ok (cut 6 2 ∷ cut 7 8 ∷ []))
unfolding cut
lists_of_cuts = (refl, refl, refl, refl)

wrong_lines : (cut_list (codes "1 1\n\n2 2\n") ≡ Err 2) × (cut_list (codes "1  1") ≡ Err 1) × (cut_list (codes "1 115199999\n0 1\n0 1") ≡ Err 3)
wrong_lines = (refl, refl, refl)

scripts : (script_lines (codes "seek 115200001\n") ≡ Err 1) × (script_lines (codes "seek 007\nmark\n\n") ≡ Err 3) × (script_lines (codes "drop 3\r") ≡ Ok (Drop 3 ∷ []))
scripts = (refl, refl, refl)

session_to_the_hour : replies 4096 still_pages (opened_session still_pages) (Seek 115199999 ∷ Play 1 ∷ Play 1 ∷ []) ≡ At 115199999 ∷ Played 1 115200000 ∷ Refused 1 ∷ []
unfolding still_pages
session_to_the_hour = refl

-- a play into a list takes a batch of 64 samples at most, whose frames have 4 bytes each
the_most_played : max_played ≡ 64
the_most_played = refl

their_bytes : max_played_bytes ≡ 256
their_bytes = refl
